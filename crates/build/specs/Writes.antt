-- The pen writes a record's body from its last parenthesis to its first: s is what it has written.
use Rattle.std.specs.Prelude.{◌≡◌, ℕ, ◌+◌, ◌-◌, ◌*◌, ◌≤◌, ◌<◌, List, ◌++◌, length, take, drop}
use Rattle.rules.specs.Shape.{Paren}
use Rattle.rules.specs.Bytes.{bits, bytes_of}
use Rattle.build.specs.declared.pen.Pen.{Pen}

-- the last bytes of the body stand in it; the first parentheses of s are still held
pub record Penned (p : Pen) (s : List Paren) : Type 0 where
  pub few : p.held < 8
  pub within : p.left ≤ length p.body.now
  pub holds : p.acc ≡ bits (take p.held s)
  pub bytes : drop p.left p.body.now ≡ bytes_of (length p.body.now - p.left) (drop p.held s)

-- something is written so far, and k more parentheses have room
pub record Ready (p : Pen) (k : ℕ) : Type 0 where
  pub s : List Paren
  pub penned : Penned p s
  pub room : p.held + k ≤ 8 * p.left

-- from pen p to q the parentheses a are written, in front of whatever there was
pub record Writes (a : List Paren) (p q : Pen) : Type 0 where
  pub room : 8 * q.left + (p.held + length a) ≡ 8 * p.left + q.held
  pub same : length q.body.now ≡ length p.body.now
  pub front : {s : List Paren} → Penned p s → Penned q (a ++ s)
