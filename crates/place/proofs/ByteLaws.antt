-- The place after one byte, by what the byte is. Assumes nothing.
use Prim.Native.Nat.{ℕ, ◌+◌, ◌≤◌, ◌<◌}
use native.Mathlib.Omega.{arith}
use mathlib.Core.Path.{◌≡◌, refl, sym, ap, ◌∙◌}
use Rattle.std.specs.Prelude.{Some, None}
use mathlib.Core.Bool.{true, false, ◌&&◌, ◌||◌}
use borrow.Author.Tests.{ne_eqb}
use Rattle.place.specs.declared.Place.{Place}
use Rattle.wat.specs.{Bytes.has, Chars.newline}
use Rattle.wat_lines.specs.LineEnds.{line_feed, carriage_return, begins}
use Rattle.place.specs.PlaceModel.{last, next_column, next_place, kept, step}
use Rattle.wat.proofs.Basics.{never}
use Rattle.wat_lines.proofs.LineLaws.{LineByte, line_byte}
use Rattle.place.proofs.OnePlace.{same_place}
use Rattle.place.proofs.MoveLaws.{Held, kept_is, kept_not}

module _ (p : Place) (x : ℕ) where
  -- the answer, by where the byte leads
  pub led : {q : Place} → next_place p x ≡ q → Held q → Some q ≡ step p x
  led {q} e h = sym (kept_is q h) ∙ ap kept (sym e)

  pub not_led : {q : Place} → next_place p x ≡ q → (Held q → ⊥) → None ≡ step p x
  not_led {q} e n = sym (kept_not q n) ∙ ap kept (sym e)

module _ (p : Place) where
  -- the rest of a CR LF
  pub rests : {x : ℕ} → LineByte x → line_feed x && p.after_cr ≡ true
      → next_place p x ≡ record { line = p.line; column = 1; after_cr = false }
  unfolding begins next_column newline has
  rests LineByte.lf e = same_place (rw (e, begins) (omega arith)) refl refl
  rests LineByte.cr e = absurd (never e refl)
  rests (LineByte.other {x} c l) e = absurd (never e (rw (ne_eqb x 0x0A l)))

  -- a CR, or a LF that is no such rest
  pub ends : {x : ℕ} → LineByte x → line_feed x && p.after_cr ≡ false → line_feed x || carriage_return x ≡ true
      → next_place p x ≡ record { line = p.line + 1; column = 1; after_cr = carriage_return x }
  unfolding begins next_column newline has
  ends LineByte.lf e f = same_place (rw (e, begins)) refl refl
  ends LineByte.cr e f = refl
  ends (LineByte.other {x} c l) e f = absurd (never f (rw (ne_eqb x 0x0A l, ne_eqb x 0x0D c)))

  -- another byte
  pub column_more : {x : ℕ} → LineByte x → line_feed x || carriage_return x ≡ false
      → next_place p x ≡ record { line = p.line; column = p.column + 1; after_cr = false }
  unfolding begins next_column newline has
  column_more LineByte.lf e = absurd (never refl e)
  column_more LineByte.cr e = absurd (never refl e)
  column_more (LineByte.other {x} c l) e =
      let z : newline x ≡ false = rw (ne_eqb 0x0A x (λ e. l (sym e)), ne_eqb 0x0D x (λ e. c (sym e))) in
      same_place (rw (ne_eqb x 0x0D c, ne_eqb x 0x0A l, begins) (omega arith)) (rw (z, next_column)) (ne_eqb x 0x0D c)

-- what is answered, by what is asked of the byte and of the place
module _ (p : Place) (x : ℕ) where
  pub rest_passed : line_feed x && p.after_cr ≡ true → p.line ≤ last
      → Some (record { line = p.line; column = 1; after_cr = false }) ≡ step p x
  rest_passed e l = led p x (rests p (line_byte x) e) (omega arith, omega arith)

  module _ (e : line_feed x && p.after_cr ≡ false) (f : line_feed x || carriage_return x ≡ true) where
    pub end_refused : p.line ≡ last → None ≡ step p x
    end_refused l = not_led p x (ends p (line_byte x) e f) (λ h. omega arith)

    pub end_passed : p.line < last
        → Some (record { line = p.line + 1; column = 1; after_cr = carriage_return x }) ≡ step p x
    end_passed l = led p x (ends p (line_byte x) e f) (omega arith, omega arith)

  module _ (e : line_feed x || carriage_return x ≡ false) where
    pub more_refused : p.column ≡ last → None ≡ step p x
    more_refused c = not_led p x (column_more p (line_byte x) e) (λ h. omega arith)

    pub more_passed : p.column < last → p.line ≤ last
        → Some (record { line = p.line; column = p.column + 1; after_cr = false }) ≡ step p x
    more_passed c l = led p x (column_more p (line_byte x) e) (omega arith, omega arith)

pub ruleset passings = (rest_passed, end_refused, end_passed, more_refused, more_passed)
