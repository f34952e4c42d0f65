use Rattle.std.proofs.Common.{◌≡◌, ◌<◌, length, get_or, take, decimal, sym, ap, ◌∙◌, subst, arith}
use Rattle.std.specs.Str.Parse.{digits_value, AllDigits}
use Rattle.std.proofs.lemmas.List.{take_all}
use Rattle.order_file.proofs.Numbers.{written, leads, no_digit, more_digits, too_many}
use Rattle.order_file.proofs.fields.number_of.Goals as goal

pub returns-then-matches : goal.returns-then-matches
returns-then-matches c = λ n h. let l = leads c.args.bytes.now n h in grind (arith, l.0, l.1)

pub returns-in_err-digit : goal.returns-in_err-digit
returns-in_err-digit c = rw c.from_residual.ensures (no_digit c.args.bytes.now c.loop-b.b-index c.loop-b-test.true c.in_err-digit.ensures.value)

pub returns-in_err-checked_mul : goal.returns-in_err-checked_mul
returns-in_err-checked_mul c =
    rw c.from_residual-in_err-checked_mul.ensures
    (too_many c.args.bytes.now c.loop-b.b-index c.loop-b.value c.in_ok-digit.digit c.loop-b-test.true c.loop-b.invariant.0 c.in_ok-digit.ensures.value.1 (omega (arith, c.in_err-checked_mul.ensures)))

pub returns-in_err-value : goal.returns-in_err-value
returns-in_err-value c =
    rw c.from_residual-in_err-value.ensures
    (too_many c.args.bytes.now c.loop-b.b-index c.loop-b.value c.in_ok-digit.digit c.loop-b-test.true c.loop-b.invariant.0 c.in_ok-digit.ensures.value.1 (omega (arith, c.in_err-value.ensures, c.in_ok-checked_mul.ensures.1)))

pub loop-b-preserved : goal.loop-b-preserved
loop-b-preserved c =
    let a = c.in_ok-value.ensures in
    let m = more_digits c.args.bytes.now c.loop-b.b-index c.loop-b.value c.in_ok-digit.digit c.in_ok-value.value c.loop-b-test.true c.loop-b.invariant.0 c.loop-b.invariant.2 c.in_ok-digit.ensures.value
    (omega (arith, a.1, c.in_ok-checked_mul.ensures.1)) in
    (m.0, omega (arith, a.0, a.1), m.1)

pub returns : goal.returns
returns c =
    let bs = c.args.bytes.now in
    let e : take c.loop-b.b-index bs ≡ bs = take_all c.loop-b.b-index bs c.loop-b-test.false in
    let v : c.loop-b.value ≡ digits_value 10 bs = c.loop-b.invariant.0 ∙ ap (digits_value 10) e in
    let some : 0 < length bs = grind arith in
    let lead : get_or bs 0 0 ≡ 48 → length bs ≡ 1 = λ z. grind (arith, z) in
    (c.loop-b.invariant.1, written bs some lead (subst (AllDigits 10) e c.loop-b.invariant.2) (omega arith) ∙ ap decimal (sym v))
