use Rattle.std.proofs.Common.{◌≡◌, length, sym, ap, ◌∙◌, arith, inl, inr}
use Rattle.std.specs.Prelude.{Some}
use Rattle.manifests.specs.Code.{digits_of}
use Rattle.manifests.specs.declared.fronts.Digits.{Digits}
use Rattle.manifests.proofs.Digits.{number-none, number_short, number_is}
use Rattle.manifests.proofs.read_number.Goals as goal

pub returns-then-digits-eq0 : goal.returns-then-digits-eq0
returns-then-digits-eq0 c =
    let s = c.args.s.now in
    let e : c.read_digits-digits.result.count ≡ length (digits_of 9 s) = ap (λ (d : Digits). d.count) c.read_digits-digits.ensures in
    elim c.then-digits-eq0.either [ inl z ↦ number-none s (sym e ∙ z) | inr w ↦ number_short s (omega (arith, e, w.1)) ]

pub returns : goal.returns
returns c =
    let s = c.args.s.now in
    let e : c.read_digits-digits.result.count ≡ length (digits_of 9 s) = ap (λ (d : Digits). d.count) c.read_digits-digits.ensures in
    ap (λ (d : Digits). Some d.value) c.read_digits-digits.ensures
    ∙ number_is s (λ z. c.if-digits-eq0.false (e ∙ z)) (omega (arith, e, c.if-digits-s.false))
