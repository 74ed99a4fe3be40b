-- Document 01, "Record and drawer bytes" and "Order of checks": a drawer is records one after another with nothing between. Find, the
-- hand-out, the look through two drawers, and append.
use Rattle.std.specs.Prelude.{ℕ, zero, suc, ◌+◌, ◌-◌, cond, List, [], ◌++◌, ltb, eqb, length, take, drop}
use Rattle.rules.specs.Bytes.{record_length, entries}
use Rattle.rules.specs.Refusal.{Outcome, answer, refusal, unless_refused, afterwards}
use Rattle.rules.specs.Order.{frame_says, build_says, output_after, work_after}

-- the most bytes and the most records of a drawer
abbrev pub most_bytes : ℕ
most_bytes = 65536

abbrev pub most_records : ℕ
most_records = 64

-- ---- Find: place and length, or a refusal's number

pub data Found : Type 0 where
  found : ℕ → ℕ → Found
  lost : ℕ → Found

-- what comes of the frame at a place: with the record's length it goes on, a fault decides
abbrev pub if_framed : Outcome → (ℕ → Found) → Found
if_framed (answer n) next = next (record_length n)
if_framed (refusal k) next = lost k

-- frames from the one at this place through the r-th after it; 10 if the drawer ends cleanly before that
unfoldable pub seek : List ℕ → ℕ → ℕ → Found
seek d zero at = cond (ltb at (length d)) (if_framed (frame_says (drop at d)) (λ l. found at l)) (lost 10)
seek d (suc r) at = cond (ltb at (length d)) (if_framed (frame_says (drop at d)) (λ l. seek d r (at + l))) (lost 10)

-- Find r: 12; 10 for r of 64 or more; then frames from record 0 through r
unfoldable pub find_says : List ℕ → ℕ → Found
find_says d r = cond (ltb most_bytes (length d)) (lost 12) (cond (ltb r most_records) (seek d r 0) (lost 10))

-- The hand-out: exactly that part of the drawer, or a part of length 0 where find refuses
abbrev pub part_of : List ℕ → Found → List ℕ
part_of d (found p l) = take l (drop p d)
part_of d (lost k) = []

unfoldable pub hand_out : List ℕ → ℕ → List ℕ
hand_out d r = part_of d (find_says d r)

-- ---- The look through a pass's own drawer and the shared one

pub data Drawer : Type 0 where
  own shared : Drawer

-- the part of a drawer at a place, of a length; or the drawer that refused, and the refusal's number
pub data Look : Type 0 where
  part : Drawer → ℕ → ℕ → Look
  nothing : Drawer → ℕ → Look

abbrev pub in_shared : Found → Look
in_shared (found p l) = part shared p l
in_shared (lost k) = nothing shared k

-- the own part if own find succeeds and its n is above 0; the shared one if own find says 10 or its n is 0
abbrev pub own_first_of : List ℕ → Found → Look → Look
own_first_of d (found p l) other = cond (ltb 0 (entries (take l (drop p d)))) (part own p l) other
own_first_of d (lost k) other = cond (eqb k 10) other (nothing own k)

unfoldable pub look_says : List ℕ → List ℕ → ℕ → Look
look_says d s r = own_first_of d (find_says d r) (in_shared (find_says s r))

abbrev pub look_part : List ℕ → List ℕ → Look → List ℕ
look_part d s (part own p l) = take l (drop p d)
look_part d s (part shared p l) = take l (drop p s)
look_part d s (nothing w k) = []

-- The separate question: which drawer the part comes from, or the refusal and the drawer that gave it
pub data Whence : Type 0 where
  stands : Drawer → Whence
  refused_by : Drawer → ℕ → Whence

abbrev pub whence : Look → Whence
whence (part w p l) = stands w
whence (nothing w k) = refused_by w k

unfoldable pub which_says : List ℕ → List ℕ → ℕ → Whence
which_says d s r = whence (look_says d s r)

-- ---- Append

-- k and the number of whole framed records from this place on, or 13 at the first fault. A record has at least 4 bytes, so a count of as
-- many as there are bytes is enough: `records-more` and `records_end` (proofs/Drawer) have no count.
abbrev pub one_more : Outcome → (ℕ → Outcome) → Outcome
one_more (answer n) next = next (record_length n)
one_more (refusal k) next = refusal 13

unfoldable pub records_from : ℕ → List ℕ → ℕ → ℕ → Outcome
records_from zero d at k = cond (ltb at (length d)) (refusal 13) (answer k)
records_from (suc f) d at k =
    cond (ltb at (length d)) (one_more (frame_says (drop at d)) (λ l. records_from f d (at + l) (k + 1))) (answer k)

unfoldable pub records_in : List ℕ → Outcome
records_in d = records_from (length d) d 0 0

-- Append (buffer b, used length u, column c, w work numbers): 12, 13, 14, 1, 2, 3. It says the new used length.
unfoldable pub append_says : List ℕ → ℕ → List ℕ → ℕ → Outcome
append_says b u c w =
    cond (ltb most_bytes (length b)) (refusal 12)
    (cond (ltb (length b) u) (refusal 13)
    (unless_refused (records_in (take u b))
    (λ k. cond (ltb k most_records) (unless_refused (build_says c w (length b - u)) (λ l. answer (u + l))) (refusal 14))))

-- the new record goes straight into the buffer behind the used bytes, and no other byte of it changes
unfoldable pub buffer_after : List ℕ → ℕ → List ℕ → List ℕ → List ℕ
buffer_after b u c w = afterwards (append_says b u c (length w)) (take u b ++ output_after c w (drop u b)) b

-- the work ends as in build
unfoldable pub work_after_append : List ℕ → ℕ → List ℕ → List ℕ → List ℕ
work_after_append b u c w = afterwards (append_says b u c (length w)) (work_after c w (drop u b)) w
