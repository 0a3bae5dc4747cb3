-- The byte at the place continues a character, or one starts there.
use Rattle.std.proofs.Common.{arith}
use Rattle.utf8_chars.proofs.BoundaryLaws.{boundary_end, boundary_start, boundary_inside}
use Rattle.utf8_chars.proofs.is_char_boundary.Goals as goal

pub returns-then-at-s : goal.returns-then-at-s
returns-then-at-s c = boundary_end _ _ c.requires.0 c.if-at-s.true

pub returns-then-b-lt128 : goal.returns-then-b-lt128
returns-then-b-lt128 c = boundary_start _ _ c.requires.0 (omega arith) (λ q. omega arith)

pub returns-then-b-lt192 : goal.returns-then-b-lt192
returns-then-b-lt192 c = boundary_inside _ _ c.requires.0 (omega arith) (omega arith)

pub returns : goal.returns
returns c = boundary_start _ _ c.requires.0 (omega arith) (λ q. omega arith)
