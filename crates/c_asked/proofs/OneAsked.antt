-- Words name one token or none. Assumes nothing.
use Prim.Native.Nat.{ℕ}
use mathlib.Core.Path.{◌≡◌, sym, ◌∙◌}
use native.Mathlib.Omega.{arith}
use Rattle.wat.specs.declared.Token.{Token}
use Rattle.wat.proofs.KindNumbers.{injective}
use Rattle.c_asked.specs.Asked.{NoToken, TokenOf}

pub named_one : {k o l : ℕ} {t u : Token} → TokenOf k o l t → TokenOf k o l u → t ≡ u
named_one {t = t} {u = u} p q =
    let a : t.kind ≡ u.kind = injective t.kind u.kind (p.named ∙ sym q.named) in
    let b : t.offset ≡ u.offset = p.stands ∙ sym q.stands in
    let c : t.len ≡ u.len = p.long ∙ sym q.long in
    λ i. record { kind = a i; offset = b i; len = c i }

pub named_or_not : {k o l : ℕ} {t : Token} → TokenOf k o l t → NoToken k l → ⊥
named_or_not {t = t} p (NoToken.nameless n) = n t.kind p.named
named_or_not p (NoToken.long h) = let f = p.fits in omega arith
