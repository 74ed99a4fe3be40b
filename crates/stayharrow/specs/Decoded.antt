-- What a caller reads from the number, and that the number loses nothing: it fixes what was said.
use Rattle.std.specs.Prelude.{◌≡◌, ℕ, ◌/◌, ◌%◌, ◌^◌, ◌≤◌, ◌<◌, cond, List, ltb, eqb}
use Rattle.rules.specs.Refusal.{Outcome, answer, refusal}
use Rattle.rules.specs.Order.{check_says, build_says, ask_says, stand_in_says}
use Rattle.rules.specs.Drawer.{Drawer, own, shared, Found, found, lost, find_says, Whence, stands, refused_by, which_says, append_says}
use Rattle.rules.specs.Summary.{fill_says, QuickSays}
use Rattle.rules.specs.Window.{window_says, through_says}
use Rattle.stayharrow.specs.Coded.{coded, coded_found, coded_whence, accepted}

-- bits 0 to 7, and bit 40
abbrev pub number_of : ℕ → ℕ
number_of x = x % 2 ^ 8

abbrev pub drawer_of : ℕ → Drawer
drawer_of x = cond (eqb (x / 2 ^ 40 % 2) 1) shared own

abbrev pub decoded : ℕ → Outcome
decoded x = cond (ltb x (2 ^ 63)) (answer x) (refusal (number_of x))

abbrev pub decoded_found : ℕ → Found
decoded_found x = cond (ltb x (2 ^ 63)) (found (x / 2 ^ 32) (x % 2 ^ 32)) (lost (number_of x))

abbrev pub decoded_whence : ℕ → Whence
decoded_whence x = cond (ltb x (2 ^ 63)) (stands (cond (eqb x 1) shared own)) (refused_by (drawer_of x) (number_of x))

-- ---- what the number has room for

-- one of the document's refusals
abbrev pub Listed : ℕ → Type 0
Listed k = (1 ≤ k) × (k ≤ 14)

abbrev pub Fits : Outcome → Type 0
Fits (answer v) = v < 2 ^ 63
Fits (refusal k) = Listed k

abbrev pub FitsFound : Found → Type 0
FitsFound (found p l) = (p < 2 ^ 31) × (l < 2 ^ 32)
FitsFound (lost k) = Listed k

abbrev pub FitsWhence : Whence → Type 0
FitsWhence (stands w) = Unit {0}
FitsWhence (refused_by w k) = Listed k

-- what has room is read back, so that two outcomes with one number are one
pub record ReadsBack : Type 0 where
  pub outcome : (o : Outcome) → Fits o → decoded (coded o) ≡ o
  pub found : (f : Found) → FitsFound f → decoded_found (coded_found f) ≡ f
  pub whence : (w : Whence) → FitsWhence w → decoded_whence (coded_whence w) ≡ w

pub record Once : Type 0 where
  pub outcome : (o p : Outcome) → Fits o → Fits p → coded o ≡ coded p → o ≡ p
  pub found : (f g : Found) → FitsFound f → FitsFound g → coded_found f ≡ coded_found g → f ≡ g
  pub whence : (v w : Whence) → FitsWhence v → FitsWhence w → coded_whence v ≡ coded_whence w → v ≡ w

-- whatever an entry point says has room, for every input
pub record HasRoom : Type 0 where
  pub build : (c : List ℕ) (w o : ℕ) → Fits (build_says c w o)
  pub check : (r : List ℕ) → Fits (accepted (check_says r))
  pub fill : (r : List ℕ) (m : ℕ) → Fits (accepted (fill_says r m))
  pub ask : (r : List ℕ) (i j : ℕ) → Fits (ask_says r i j)
  pub quick_ask : (r t : List ℕ) (i j : ℕ) (o : Outcome) → QuickSays r t i j o → Fits o
  pub standing_in : (r : List ℕ) (m : ℕ) → Fits (stand_in_says r m)
  pub find : (d : List ℕ) (r : ℕ) → FitsFound (find_says d r)
  pub which : (d s : List ℕ) (r : ℕ) → FitsWhence (which_says d s r)
  pub append : (b : List ℕ) (u : ℕ) (c : List ℕ) (w : ℕ) → Fits (append_says b u c w)
  pub window : (r : List ℕ) (f l : ℕ) → Fits (accepted (window_says r f l))
  pub window-ask : (r : List ℕ) (f l i j : ℕ) → Fits (through_says r f l i j)
