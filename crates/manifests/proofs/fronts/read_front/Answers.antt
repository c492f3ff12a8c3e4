use Rattle.std.proofs.Common.{◌≡◌, ℕ, length, get_or, sym, ap, ◌∙◌, arith}
use Rattle.std.specs.Prelude.{Some}
use Rattle.manifests.specs.Code.{digits_of}
use Rattle.manifests.specs.declared.fronts.Digits.{Digits}
use Rattle.manifests.proofs.Keys.{fronted, front-none, front-past, front-other, front-is}
use Rattle.manifests.proofs.fronts.read_front.Goals.{then-read-eq0-via-then-read-eq0, then-read-eq0-via-else-read-eq0+then-s-read, then-read-eq0-via-else-read-eq0+else-s-read+then-s-read-ne9}
use Rattle.manifests.proofs.fronts.read_front.Goals as goal

pub returns-then-read-eq0 : goal.returns-then-read-eq0
returns-then-read-eq0 c =
    let s = c.args.s.now in
    let e : c.read_digits-digits.result.count ≡ length (digits_of 9 s) = ap (λ (d : Digits). d.count) c.read_digits-digits.ensures in
    elim c.then-read-eq0.branch [
      | then-read-eq0-via-then-read-eq0 w ↦ fronted s (front-none s (sym e ∙ w.if-read-eq0.true)) e
      | then-read-eq0-via-else-read-eq0+then-s-read w ↦ fronted s (front-past s (omega (arith, e, w.if-s-read.true))) e
      | then-read-eq0-via-else-read-eq0+else-s-read+then-s-read-ne9 w ↦
          fronted s (front-other s (λ z. w.if-s-read-ne9.true (ap (λ (k : ℕ). get_or s k 0) e ∙ z))) e
    ]

pub returns : goal.returns
returns c =
    let s = c.args.s.now in
    let e : c.read_digits-digits.result.count ≡ length (digits_of 9 s) = ap (λ (d : Digits). d.count) c.read_digits-digits.ensures in
    fronted s
    (ap (λ (d : Digits). Some d.value) c.read_digits-digits.ensures
    ∙ front-is s (λ z. c.if-read-eq0.false (e ∙ z)) (omega (arith, e, c.if-s-read.false)) (ap (λ (k : ℕ). get_or s k 0) (sym e) ∙ c.if-s-read-ne9.false))
    e
