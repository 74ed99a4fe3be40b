-- Document 01, "Record and drawer bytes" and the paragraph on hand-out and look: what the rules of drawers amount to, for every input.
use Rattle.std.specs.Prelude.{◌≡◌, ℕ, ◌+◌, ◌-◌, ◌≤◌, ◌<◌, List, [], ◌++◌, length, take, drop, Result}
use Rattle.rules.specs.Column.{Alike}
use Rattle.rules.specs.Bytes.{most, record_length, column_record, entries}
use Rattle.rules.specs.Refusal.{answer}
use Rattle.rules.specs.Drawer.{most_bytes, most_records, found, lost, find_says, hand_out, own, shared, look_says, look_part, Whence, stands, refused_by, which_says, records_in, append_says, buffer_after}
use Rattle.answers.specs.Said.{Answer}
use Rattle.answers.specs.declared.Refusal.{Refusal}
use Rattle.drawer.specs.declared.Place.{Place}
use Rattle.drawer.specs.declared.Drawer.{Drawer}
use Rattle.drawer.specs.declared.Denied.{Denied}
use Rattle.drawer.specs.Said.{said_found, said_whence}
use Rattle.append.specs.Appends.{Appends}

-- The used bytes after an append that answers v, and before it
pub record Appended (b : List ℕ) (u : ℕ) (c w : List ℕ) (v k : ℕ) : Type 0 where
  -- k whole framed records stood there; they are a drawer again, of one record more
  pub before : records_in (take u b) ≡ answer k
  pub drawer : records_in (take v (buffer_after b u c w)) ≡ answer (k + 1)
  pub joined : take v (buffer_after b u c w) ≡ take u b ++ column_record c
  pub records : k + 1 ≤ most_records
  pub bytes : v ≤ most_bytes
  -- find of the new number gives the new record, and that is the column's
  pub newest : find_says (take v (buffer_after b u c w)) k ≡ found u (v - u)
  pub column : hand_out (take v (buffer_after b u c w)) k ≡ column_record c
  -- every earlier find answers as before, and gives the same bytes
  pub earlier : (r : ℕ) → r < k → find_says (take v (buffer_after b u c w)) r ≡ find_says (take u b) r
  pub kept : (r : ℕ) → r < k → hand_out (take v (buffer_after b u c w)) r ≡ hand_out (take u b) r
  -- the bytes in front of the new record and behind it are as they were
  pub front : take u (buffer_after b u c w) ≡ take u b
  pub behind : drop v (buffer_after b u c w) ≡ drop v b

pub record Appending : Type 0 where
  -- append answers wherever buffer, records, column and work are as its rule asks
  pub accepted : (b : List ℕ) (u k : ℕ) (c w : List ℕ) → length b ≤ most_bytes → u ≤ length b → records_in (take u b) ≡ answer k → k < most_records
      → length c ≤ most → record_length (length c) ≤ length b - u → length c ≤ length w → append_says b u c (length w) ≡ answer (u + record_length (length c))
  pub appended : (b : List ℕ) (u : ℕ) (c w : List ℕ) (v : ℕ) → append_says b u c (length w) ≡ answer v → (k : ℕ) × Appended b u c w v k

-- The question names the drawer of which the look's part is the hand-out, a record's four bytes at least; or a part of length 0, and the
-- refusal is what find says in the drawer that is named
abbrev pub Agrees : List ℕ → List ℕ → ℕ → Whence → List ℕ → Type 0
Agrees d s r (stands own) p = (p ≡ hand_out d r) × (4 ≤ length p)
Agrees d s r (stands shared) p = (p ≡ hand_out s r) × (4 ≤ length p)
Agrees d s r (refused_by own k) p = (p ≡ []) × (find_says d r ≡ lost k)
Agrees d s r (refused_by shared k) p = (p ≡ []) × (find_says s r ≡ lost k)

pub record Looking : Type 0 where
  pub agree : (d s : List ℕ) (r : ℕ) → Agrees d s r (which_says d s r) (look_part d s (look_says d s r))

-- Where the own drawer has a record r with entries, nothing in the shared drawer changes the answer
pub record OwnFirst : Type 0 where
  pub own_first : (d : List ℕ) (r p l : ℕ) → find_says d r ≡ found p l → 0 < entries (take l (drop p d)) → (s s' : List ℕ)
      → (look_says d s r ≡ look_says d s' r) × (look_part d s (look_says d s r) ≡ look_part d s' (look_says d s' r)) × (which_says d s r ≡ which_says d s' r)

-- Two runs of append on columns of equal length with the same leftmost smallest places, and otherwise equal input
pub record AppendPrivate : Type 0 where
  pub private : (b : List ℕ) (u : ℕ) (c d w : List ℕ) → length c ≡ length d → Alike (length c) c d
      → (x y : Answer) (b₁ w₁ b₂ w₂ : List ℕ) → Appends b u c w x b₁ w₁ → Appends b u d w y b₂ w₂
      → (x ≡ y) × (b₁ ≡ b₂) × (take (length c) w₁ ≡ take (length c) w₂)

-- Two results allowed for one input are equal
pub record DrawerOnce : Type 0 where
  pub find : (d : List ℕ) (r : ℕ) (x y : Result Place Refusal) → said_found x ≡ find_says d r → said_found y ≡ find_says d r → x ≡ y
  pub handed_out : (d : List ℕ) (r : ℕ) (x y : List ℕ) → x ≡ hand_out d r → y ≡ hand_out d r → x ≡ y
  pub look : (d s : List ℕ) (r : ℕ) (x y : List ℕ) → x ≡ look_part d s (look_says d s r) → y ≡ look_part d s (look_says d s r) → x ≡ y
  pub which : (d s : List ℕ) (r : ℕ) (x y : Result Drawer Denied) → said_whence x ≡ which_says d s r → said_whence y ≡ which_says d s r → x ≡ y
  pub append : (b : List ℕ) (u : ℕ) (c w : List ℕ) (x y : Answer) (b₁ w₁ b₂ w₂ : List ℕ) → Appends b u c w x b₁ w₁ → Appends b u c w y b₂ w₂
      → (x ≡ y) × (b₁ ≡ b₂) × (w₁ ≡ w₂)
