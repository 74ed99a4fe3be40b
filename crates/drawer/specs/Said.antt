-- Document 01, "Forms by place": the paper's number and values for each case of what is answered.
use Rattle.std.specs.Prelude.{ℕ, List, Result, Ok, Err}
use Rattle.rules.specs.Drawer.{Found, found, lost, Drawer, own, shared, Look, part, nothing, Whence, stands, refused_by}
use Rattle.answers.specs.declared.Refusal.{Refusal}
use Rattle.answers.specs.Said.{number}
use Rattle.drawer.specs.declared.Place.{Place}
use Rattle.drawer.specs.declared.Choice.{Choice}
use Rattle.drawer.specs.declared.Denied.{Denied}
use Rattle.drawer.specs.declared.Drawer.{Drawer as Drawer'}
use Rattle.drawer.specs.declared.Drawer.TheVariants.{Own, Shared}

abbrev pub said_found : Result Place Refusal → Found
said_found (Ok p) = found p.at p.size
said_found (Err x) = lost (number x)

abbrev pub said_drawer : Drawer' → Drawer
said_drawer Own = own
said_drawer Shared = shared

-- the bytes of that one of an own drawer and the shared one
abbrev pub the_one : Drawer' → List ℕ → List ℕ → List ℕ
the_one Own d s = d
the_one Shared d s = s

abbrev pub said_choice : Result Choice Denied → Look
said_choice (Ok c) = part (said_drawer c.from) c.place.at c.place.size
said_choice (Err e) = nothing (said_drawer e.by) (number e.refusal)

abbrev pub said_whence : Result Drawer' Denied → Whence
said_whence (Ok w) = stands (said_drawer w)
said_whence (Err e) = refused_by (said_drawer e.by) (number e.refusal)
