-- What an exported call promises settles its answer: two structs that say the same on paper are the same. With the equations for the tables this gives each
-- call of the C interface one outcome for one input. Assumes nothing.
use mathlib.Core.Path.{◌≡◌, sym, ap, ◌∙◌}
use Prim.Native.Nat.{ℕ}
use Rattle.rings.specs.Refusal.{Paper}
use Rattle.c_answers.specs.Crossing.{counts_paper, value_paper}
use Rattle.c_answers.specs.declared.CountsAnswer.{CountsAnswer}
use Rattle.c_answers.specs.declared.ValueAnswer.{ValueAnswer}

value_is : (n n' p p' v v' : ℕ) → n ≡ n' → p ≡ p' → v ≡ v'
    → ◌≡◌ {A = ValueAnswer} (record { number = n; place = p; value = v }) (record { number = n'; place = p'; value = v' })
value_is n n' p p' v v' a b c = rw (a, b, c)

counts_is : (n n' p p' v v' e e' f f' : ℕ) → n ≡ n' → p ≡ p' → v ≡ v' → e ≡ e' → f ≡ f'
    → ◌≡◌ {A = CountsAnswer} (record { number = n; place = p; v = v; e = e; f = f }) (record { number = n'; place = p'; v = v'; e = e'; f = f' })
counts_is n n' p p' v v' e e' f f' a b c d g = rw (a, b, c, d, g)

-- two answers that a promise allows are equal
pub one_value : {promised : Paper} (a b : ValueAnswer) → value_paper a ≡ promised → value_paper b ≡ promised → a ≡ b
one_value a b x y =
    let q : value_paper a ≡ value_paper b = x ∙ sym y in
    value_is a.number b.number a.place b.place a.value b.value
    (ap (λ (p : Paper). p.number) q) (ap (λ (p : Paper). p.place) q) (ap (λ (p : Paper). p.first) q)

pub one_counts : {promised : Paper} (a b : CountsAnswer) → counts_paper a ≡ promised → counts_paper b ≡ promised → a ≡ b
one_counts a b x y =
    let q : counts_paper a ≡ counts_paper b = x ∙ sym y in
    counts_is a.number b.number a.place b.place a.v b.v a.e b.e a.f b.f
    (ap (λ (p : Paper). p.number) q) (ap (λ (p : Paper). p.place) q)
    (ap (λ (p : Paper). p.first) q) (ap (λ (p : Paper). p.second) q) (ap (λ (p : Paper). p.third) q)
