-- Two answers of find of which the same is said are equal, and so are two answers of the question which drawer a part comes from.
-- Assumes nothing.
use mathlib.Core.Path.{◌≡◌, refl, ap}
use Rattle.std.specs.Prelude.{Result, Ok, Err}
use Rattle.rules.specs.Refusal.{refusal}
use Rattle.answers.specs.declared.Refusal.{Refusal}
use Rattle.answers.specs.Said.{number}
use Rattle.answers.proofs.Said.{said_once}
use Rattle.drawer.specs.declared.Place.{Place}
use Rattle.drawer.specs.declared.Denied.{Denied}
use Rattle.drawer.specs.declared.Drawer.{Drawer}
use Rattle.drawer.specs.declared.Drawer.TheVariants.{Own, Shared}
use Rattle.drawer.specs.Said.{said_found, said_drawer, said_whence}

-- no two refusals share a number
pub number_once : (x y : Refusal) → number x ≡ number y → x ≡ y
number_once x y e = let f : Err x ≡ Err y = said_once (Err x) (Err y) (ap refusal e) in cc

drawer_once : (a b : Drawer) → said_drawer a ≡ said_drawer b → a ≡ b
drawer_once Own Own e = refl
drawer_once Own Shared e = cc
drawer_once Shared Own e = cc
drawer_once Shared Shared e = refl

pub found_once : (a b : Result Place Refusal) → said_found a ≡ said_found b → a ≡ b
found_once (Ok p) (Ok q) e =
    let at : p.at ≡ q.at = cc in
    let size : p.size ≡ q.size = cc in
    let whole : p ≡ q = rw (at, size) in
    cc
found_once (Ok p) (Err y) e = cc
found_once (Err x) (Ok q) e = cc
found_once (Err x) (Err y) e = ap Err (number_once x y (cc))

pub whence_once : (a b : Result Drawer Denied) → said_whence a ≡ said_whence b → a ≡ b
whence_once (Ok v) (Ok w) e = ap Ok (drawer_once v w (cc))
whence_once (Ok v) (Err y) e = cc
whence_once (Err x) (Ok w) e = cc
whence_once (Err x) (Err y) e =
    let by : x.by ≡ y.by = drawer_once x.by y.by (cc) in
    let refusal : x.refusal ≡ y.refusal = number_once x.refusal y.refusal (cc) in
    let whole : x ≡ y = rw (by, refusal) in
    cc
