-- A block of a record: its parentheses in the bytes, and what a scan of them ends in.
-- Assumes nothing.
use mathlib.Core.Path.{◌≡◌, refl, ap, sym, ◌∙◌}
use Prim.Native.Nat.{ℕ, zero, suc, ◌+◌, ◌-◌, ◌*◌, ◌/◌, ◌%◌, ◌≤◌, ◌<◌}
use native.Mathlib.Nat.{zero-add, suc-add}
use native.Mathlib.Decide.{dec_le}
use native.Mathlib.Omega.{arith}
use mathlib.Core.List.{List, [], ◌∷◌, ◌++◌}
use lib.ListN.{length, take, drop, replicate, length-take, length-drop}
use lib.Seq.{take-nil, take-take, take_all, take-add, drop-drop, drop-append-le, length-take-le}
use Rattle.rules.specs.Shape.{Paren, opening}
use Rattle.rules.specs.Excess.{openings, closings, excesses, Balanced}
use Rattle.rules.specs.Bytes.{most, all_bits, low_bits, parens}
use Rattle.rules.specs.Summary.{none, block_end, leaf}
use Rattle.rules.proofs.Excess.{openings-append, closings-append, counts-length}
use Rattle.rules.proofs.ClosingPlace.{closings_part}
use Rattle.rules.proofs.Bytes.{all_bits-take, all_bits-drop, all_bits-length}
use Rattle.rules.proofs.Checked.{Checked, says_checked, parens-length}
use Rattle.checks.specs.declared.record.Record.{Record}
use Rattle.rules.proofs.Summary.{block-alone, smallest_few, leaf_few, end_few, end_closings}
use Rattle.scan.specs.declared.Scan.{Scan}
use Rattle.scan.specs.Scan.{Ready, scan_of}
use Rattle.scan.proofs.Laws.{scan-append, scan-excess, scan-smallest, scan-openings, scan-opened, some_least, ready_after}
use Rattle.checks.specs.Inside.{Whole}
use Rattle.checks.proofs.Last.{spare, before, last, parens_last}
use Rattle.summary.specs.Laid.{closed, fresh_at}

-- ---- the bytes of a block

-- the parentheses of block k
abbrev block : List Paren → ℕ → List Paren
block s k = take 256 (drop (256 * k) s)

drop-take : {A : Type 0} (i j : ℕ) (l : List A) → drop i (take (i + j) l) ≡ take j (drop i l)
drop-take zero j l = rw zero-add
drop-take (suc i) j [] = rw (suc-add i j) (sym (take-nil j))
drop-take (suc i) j (p ∷ l) = rw (suc-add i j) (drop-take i j l)

-- from byte 32k of the body on
behind : (r : List ℕ) (k : ℕ) → all_bits (drop (4 + 32 * k) r) ≡ drop (256 * k) (all_bits (drop 4 r))
behind r k =
    let e : 8 * (32 * k) ≡ 256 * k = omega arith in
    rw (← drop-drop (32 * k) 4 r, all_bits-drop (32 * k) (drop 4 r), e)

whole-bits : (r : List ℕ) (n k : ℕ) → 128 * (k + 1) ≤ n → all_bits (take 32 (drop (4 + 32 * k) r)) ≡ block (parens n r) k
unfolding parens
whole-bits r n k h =
    let e : 2 * n ≡ 256 * k + (2 * n - 256 * k) = omega arith in
    rw (all_bits-take 32 (drop (4 + 32 * k) r), behind r k, e, drop-take (256 * k) (2 * n - 256 * k) (all_bits (drop 4 r)))
    (sym (take-take 256 (2 * n - 256 * k) (drop (256 * k) (all_bits (drop 4 r))) (omega arith)))

-- the last, short block: all its bytes but one, then what is used of the last
abbrev front : List ℕ → ℕ → List ℕ
front r k = take (length r - 1 - (4 + 32 * k)) (drop (4 + 32 * k) r)

last_bits : (r : List ℕ) (n k : ℕ) → Whole r n → 128 * k < n → n ≤ 128 * (k + 1)
    → all_bits (front r k) ++ take (8 - spare n) (last r) ≡ block (parens n r) k
last_bits r n k whole some short =
    let exact = whole.exact in
    let j = length r - 1 - (4 + 32 * k) in
    let bits = all_bits (drop 4 r) in
    let z = take (8 - spare n) (last r) in
    let e : 8 * (length r - 1 - 4) ≡ 256 * k + 8 * j = omega arith in
    let upto : all_bits (before r) ≡ take (256 * k + 8 * j) bits =
    all_bits-take (length r - 1 - 4) (drop 4 r) ∙ ap (λ (m : ℕ). take m bits) e in
    let size = length-take-le (length r - 1 - 4) (drop 4 r) (omega (arith, length-drop 4 r)) in
    let long : 256 * k ≤ length (all_bits (before r)) = omega (arith, all_bits-length (before r)) in
    let all : length (drop (256 * k) (parens n r)) ≤ 256 =
    omega (arith, length-drop (256 * k) (parens n r), parens-length r n (omega arith)) in
    sym
    (take_all 256 (drop (256 * k) (parens n r)) all
    ∙ ap (drop (256 * k)) (parens_last r n whole (omega arith))
    ∙ drop-append-le (256 * k) (all_bits (before r)) z long
    ∙ rw (upto, drop-take (256 * k) (8 * j) bits, ← behind r k, ← all_bits-take j (drop (4 + 32 * k) r)))

-- ---- the numbers of a block

-- the excess before block k: each closing takes two from the number of parentheses
abbrev pub level : List Paren → ℕ → ℕ
level s k = 256 * k - 2 * closed s k

-- what a scan of block k, all 256 parentheses, ends in
pub record Read (s : List Paren) (k : ℕ) (y : Scan) : Type 0 where
  pub excess : y.excess + 2 * closed s (k + 1) ≡ 65536 + 256 * k + 256
  pub end : y.excess ≡ 65536 + block_end s k
  pub smallest : y.smallest ≡ 65536 + leaf s k
  pub leaf_few : leaf s k ≤ none
  pub end_few : block_end s k ≤ none
  pub order : closed s k ≤ closed s (k + 1)
  pub few : closed s (k + 1) ≤ most

-- what a scan of the last block ends in where it is short
pub record Short (s : List Paren) (n k : ℕ) (y : Scan) : Type 0 where
  pub all : closed s (k + 1) ≡ n
  pub end : block_end s k ≡ 0
  pub smallest : y.smallest ≡ 65536 + leaf s k
  pub leaf_few : leaf s k ≤ none
  pub order : closed s k ≤ n

pub none_closed : (s : List Paren) → 0 ≡ closed s 0
unfolding closings
none_closed s = refl

next_closed : (s : List Paren) (k : ℕ) → closed s (k + 1) ≡ closed s k + closings (block s k)
next_closed s k =
    let e : 256 * (k + 1) ≡ 256 * k + 256 = omega arith in
    rw (e, take-add (256 * k) 256 s, closings-append)

module _ (s : List Paren) (n : ℕ) (few : n ≤ most) (long : length s ≡ 2 * n) (balance : Balanced s) where
  -- no parenthesis of a block leads below 0
  block_above : (k e : ℕ) → e + closed s k ≡ openings (take (256 * k) s) → (b : ℕ)
      → closings (take b (block s k)) ≤ e + openings (take b (block s k))
  block_above k e h b = by (dec_le b 256)
    where
      within : (b : ℕ) → b ≤ 256 → closings (take b (block s k)) ≤ e + openings (take b (block s k))
      within b l =
          let p = take (256 * k) s in
          let q = take b (drop (256 * k) s) in
          let above : closings (p ++ q) ≤ openings (p ++ q) = rw (take-add (256 * k) b s) at (balance.above (256 * k + b)) in
          rw (take-take b 256 (drop (256 * k) s) l) (omega (arith, closings-append p q, openings-append p q))

      by : Dec (b ≤ 256) → closings (take b (block s k)) ≤ e + openings (take b (block s k))
      by (yes l) = within b l
      by (no l) =
          let short : length (block s k) ≤ 256 = omega (arith, length-take 256 (drop (256 * k) s)) in
          rw (take_all b (block s k) (omega arith), ← take_all 256 (block s k) short) (within 256 (omega arith))

  level-is : (k : ℕ) → 256 * k ≤ 2 * n → (level s k + closed s k ≡ openings (take (256 * k) s)) × (level s k + 2 * closed s k ≡ 256 * k)
  level-is k h =
      let above = balance.above (256 * k) in
      let counts = counts-length (take (256 * k) s) in
      let size = length-take-le (256 * k) s (omega arith) in
      (omega arith, omega arith)

  scan-block : (k : ℕ) (y : Scan) → 256 * k ≤ 2 * n → y ≡ scan_of (fresh_at (65536 + level s k)) 0 (block s k) → y.smallest ≡ 65536 + leaf s k
  unfolding leaf
  scan-block k y h e =
      let g = level s k in
      let p = (level-is k h).0 in
      ap (λ (y : Scan). y.smallest) e
      ∙ scan-smallest 65536 g none 0 0 (block s k) (omega arith) (block_above k g p)
      ∙ rw (block-alone s k g p) (omega (arith, smallest_few (excesses g (block s k))))

  read : (k : ℕ) (y : Scan) → 128 * (k + 1) ≤ n → y ≡ scan_of (fresh_at (65536 + level s k)) 0 (block s k) → Read s k y
  read k y h e =
      let size : length (block s k) ≡ 256 = length-take-le 256 (drop (256 * k) s) (omega (arith, length-drop (256 * k) s)) in
      let counts = counts-length (block s k) in
      let closed-next = next_closed s k in
      let before = level-is k (omega arith) in
      let excess : y.excess + closings (block s k) ≡ 65536 + level s k + openings (block s k) =
      rw (← e) at (scan-excess (fresh_at (65536 + level s k)) 0 (block s k) (omega arith)) in
      let end = end_closings s n long balance k (omega arith) in
      record {
        excess = omega arith;
        end = omega arith;
        smallest = scan-block k y (omega arith) e;
        leaf_few = leaf_few s k;
        end_few = omega (arith, end_few s n long balance k (omega arith));
        order = omega arith;
        few = omega (arith, closings_part s (256 * (k + 1)), balance.last, counts-length s);
      }

  -- the last, short block, with openings behind its parentheses
  read_short : (k : ℕ) (y : Scan) (u : ℕ) → 128 * k < n → n ≤ 128 * (k + 1)
      → y ≡ scan_of (fresh_at (65536 + level s k)) 0 (block s k ++ replicate u opening) → Short s n k y
  read_short k y u some short e =
      let f = fresh_at (65536 + level s k) in
      let z = scan_of f 0 (block s k) in
      let size : 0 < length (block s k) = omega (arith, length-take 256 (drop (256 * k) s), length-drop (256 * k) s) in
      let least : z.smallest ≤ z.excess = some_least f 0 (block s k) size in
      let behind : y ≡ record { excess = z.excess + u; smallest = z.smallest; place = z.place } =
      e ∙ scan-append f 0 (block s k) (replicate u opening) ∙ scan-openings z.excess z.smallest z.place (0 + length (block s k)) u least in
      let all : closed s (k + 1) ≡ closings s = rw (take_all (256 * (k + 1)) s (omega arith)) in
      let counts = counts-length s in
      let last = balance.last in
      record {
        all = omega arith;
        end = omega (arith, end_closings s n long balance k (omega arith));
        smallest = ap (λ (y : Scan). y.smallest) behind ∙ scan-block k z (omega arith) refl;
        leaf_few = leaf_few s k;
        order = omega (arith, closings_part s (256 * k));
      }

-- ---- as the code reads them

pub fresh_ready : {f : Scan} {x m : ℕ} → f ≡ fresh_at x → m ≤ x → x + m ≤ 1048576 → Ready f m
fresh_ready {f} {x} {m} e room high =
    rw e (record { room = room; high = high; bound = omega arith })

module _ (b : Record) where
  abbrev r : List ℕ
  r = b.bytes.now

  abbrev n : ℕ
  n = b.entries

  abbrev pub s : List Paren
  s = parens b.entries b.bytes.now

  checked : Checked r n
  checked = says_checked r n b.accepted

  long : length s ≡ 2 * n
  long = parens-length r n checked.framed.long

  whole : Whole r n
  whole = record { few = checked.framed.few; exact = checked.whole }

  -- the closings before a block are half of the parentheses at most
  pub half_closed : (k : ℕ) → k ≤ n / 128 → 2 * closed s k ≤ 256 * k
  half_closed k h =
      omega (arith, level-is s n checked.framed.few long checked.balance k (omega arith))

  pub read_whole : {k p : ℕ} {f y : Scan} → k < b.entries / 128 → p ≡ closed (parens b.entries b.bytes.now) k → f ≡ fresh_at (65536 + (256 * k - 2 * p))
      → y ≡ scan_of f 0 (all_bits (take (4 + 32 * k + 32 - (4 + 32 * k)) (drop (4 + 32 * k) b.bytes.now))) → Read (parens b.entries b.bytes.now) k y
  read_whole {k} {p} {f} {y} h at begins e =
      let m : 4 + 32 * k + 32 - (4 + 32 * k) ≡ 32 = omega arith in
      read s n checked.framed.few long checked.balance k y (omega arith) (e ∙ rw (begins, at, m, whole-bits r n k (omega arith)))

  pub ready_last : (p : ℕ) {f y : Scan} → f ≡ fresh_at (65536 + (256 * (n / 128) - 2 * p)) → y ≡ scan_of f 0 (all_bits (front r (n / 128))) → Ready y 8
  ready_last p {f} {y} begins e =
      let exact = checked.whole in
      let few = checked.framed.few in
      let k = n / 128 in
      let size = length-take (length r - 1 - (4 + 32 * k)) (drop (4 + 32 * k) r) in
      let bits = all_bits-length (front r k) in
      rw e (ready_after f 0 8 (all_bits (front r k)) (fresh_ready begins (omega arith) (omega arith)))

  -- f is the state before the block, y that before its last byte, t that byte with its unused bits opened, z the state behind it
  pub read_last : {p : ℕ} {f y z : Scan} (t : ℕ) → 0 < n % 128 → p ≡ closed s (n / 128) → f ≡ fresh_at (65536 + (256 * (n / 128) - 2 * p)) → y ≡ scan_of f 0 (all_bits (front r (n / 128)))
      → low_bits 8 t ≡ take (8 - (8 - 2 * (n % 4)) % 8) (last r) ++ replicate (8 - (8 - (8 - 2 * (n % 4)) % 8)) opening
      → z ≡ scan_of y (8 * (length r - 1 - (4 + 32 * (n / 128)))) (low_bits 8 t) → Short s n (n / 128) z
  read_last {p} {f} {y} {z} t some at begins upto opens end =
      let exact = checked.whole in
      let k = n / 128 in
      let unused : (8 - 2 * (n % 4)) % 8 ≡ spare n = omega arith in
      let used = take (8 - spare n) (last r) in
      let u = 8 - (8 - spare n) in
      let size = length-take-le (length r - 1 - (4 + 32 * k)) (drop (4 + 32 * k) r) (omega (arith, length-drop (4 + 32 * k) r)) in
      let place : 8 * (length r - 1 - (4 + 32 * k)) ≡ 0 + 8 * length (front r k) = omega arith in
      let through = scan-opened f y z 0 (front r k) t u used upto (rw unused at opens) (rw (← place) end) in
      read_short s n checked.framed.few long checked.balance k z u (omega arith) (omega arith)
      (through ∙ rw (begins, at, last_bits r n k whole (omega arith) (omega arith)))
