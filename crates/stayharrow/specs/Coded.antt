-- One 64-bit number for what an entry point says. Bit 63 clear: the answer. Bit 63 set: a refusal; bits 0 to 7 are its number, bits 8 to 39 its
-- place where it has one and else 0, bit 40 the drawer that gave it (0 own, 1 shared).
use Rattle.std.specs.Prelude.{ℕ, ◌+◌, ◌*◌, ◌^◌}
use Rattle.rules.specs.Refusal.{Outcome, answer, refusal}
use Rattle.rules.specs.Drawer.{Drawer, own, shared, Found, found, lost, Whence, stands, refused_by}

-- a refusal of this drawer, at this place, with this number
abbrev pub refused : ℕ → ℕ → ℕ → ℕ
refused drawer place number = 2 ^ 63 + 2 ^ 40 * drawer + 2 ^ 8 * place + number

-- no refusal has a place yet
abbrev pub coded : Outcome → ℕ
coded (answer v) = v
coded (refusal k) = refused 0 0 k

-- Find: place * 2^32 + length
abbrev pub coded_found : Found → ℕ
coded_found (found place length) = place * 2 ^ 32 + length
coded_found (lost k) = refused 0 0 k

-- Which: 0 own, 1 shared
abbrev pub drawer_bit : Drawer → ℕ
drawer_bit own = 0
drawer_bit shared = 1

abbrev pub coded_whence : Whence → ℕ
coded_whence (stands w) = drawer_bit w
coded_whence (refused_by w k) = refused (drawer_bit w) 0 k

-- Check, fill and a window answer 0 where the library answers n
abbrev pub accepted : Outcome → Outcome
accepted (answer n) = answer 0
accepted (refusal k) = refusal k
