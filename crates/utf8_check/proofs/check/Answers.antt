-- Past a whole character the check may go on; where none stands, it says so.
use Rattle.std.proofs.Common.{◌≡◌, ℕ, ◌+◌, ◌<◌, ◌≤◌, List, length, drop, sym, ◌∙◌, arith, length-drop}
use Rattle.wat.specs.declared.Front.TheVariants.{Whole}
use Rattle.wat.specs.Utf8Model.{front}
use Rattle.utf8_check.specs.Following.{Resumes}
use Rattle.utf8_chars.proofs.DecodeLaws.{front_char}
use Rattle.utf8_check.proofs.ScanLaws.{scan_whole, scan_wrong, scan_cut, scan_end, says_of_model}
use Rattle.utf8_check.proofs.ResumeLaws.{past_ascii}
use Rattle.utf8_check.proofs.check.Goals as goal

-- past a whole character
record Passed (s : List ℕ) (i j : ℕ) : Type 0 where
  more : i < j
  within : j ≤ length s
  on : Resumes s j

passed : (s : List ℕ) (i n : ℕ) → i < length s → Resumes s i → front (drop i s) ≡ Whole n → Passed s i (i + n)
passed s i n h r e =
    let f = front_char (drop i s) n e in
    let w : i + n ≤ length s = omega (arith, length-drop i s) in
    record { more = omega arith; within = w; on = record { within = w; same = sym (scan_whole s i h n e) ∙ r.same } }

pub loop-i-preserved-then-s-i-lt128 : goal.loop-i-preserved-then-s-i-lt128
loop-i-preserved-then-s-i-lt128 c = past_ascii c.args.s.now c.loop-i.i (omega arith) c.if-s-i-lt128.true c.loop-i.invariant

pub overflow_add-i-in-Whole : goal.overflow_add-i-in-Whole
overflow_add-i-in-Whole c =
    let p = passed c.args.s.now c.loop-i.i c.in-Whole.n (omega arith) c.loop-i.invariant (sym c.in-Whole.ensures) in
    omega arith

pub loop-i-smaller : goal.loop-i-smaller
loop-i-smaller c =
    let p = passed c.args.s.now c.loop-i.i c.in-Whole.n (omega arith) c.loop-i.invariant (sym c.in-Whole.ensures) in
    omega arith

pub loop-i-preserved : goal.loop-i-preserved
loop-i-preserved c = (passed c.args.s.now c.loop-i.i c.in-Whole.n (omega arith) c.loop-i.invariant (sym c.in-Whole.ensures)).on

pub returns-in-Wrong : goal.returns-in-Wrong
returns-in-Wrong c =
    let l = c.loop-i in
    let wrong = scan_wrong _ l.i (omega arith) _ (sym c.in-Wrong.ensures) in
    says_of_model _ _ (sym wrong ∙ l.invariant.same)

pub returns-in-Cut : goal.returns-in-Cut
returns-in-Cut c =
    let l = c.loop-i in
    let cut = scan_cut _ l.i (omega arith) (sym c.in-Cut.ensures) in
    says_of_model _ _ (sym cut ∙ l.invariant.same)

pub returns : goal.returns
returns c = says_of_model _ _ (sym (scan_end _ _ c.loop-i-test.false) ∙ c.loop-i.invariant.same)
