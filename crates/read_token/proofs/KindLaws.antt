-- What is answered of a token that is there, by its kind. Assumes nothing.
use mathlib.Core.Path.{◌≡◌, refl, sym, subst}
use mathlib.Core.List.{List}
use Prim.Native.Nat.{ℕ}
use Rattle.wat.specs.declared.{TokenKind.TokenKind, Token.Token}
use Rattle.wat.specs.declared.TokenKind.TheVariants as kind
use Rattle.wat.specs.Bytes.{byte}
use Rattle.wat_values.specs.declared.NameKind.TheVariants as the
use Rattle.wat_values.specs.Values.{Reader, Sigil, Takes}
use Rattle.wat_values.specs.Reading.{There}
use Rattle.read_token.specs.Here.{other, Untaken, Denied, HereName, Unnamed}

module _ {text : List ℕ} {token : Token} (t : There text token) where
  pub id_named : token.kind ≡ kind.Id → HereName text token the.Id
  id_named e = HereName.named t (subst (λ (k : TokenKind). Sigil the.Id k (byte "$")) (sym e) Sigil.id)

  pub annotation_named : token.kind ≡ kind.Annotation → HereName text token the.Annotation
  annotation_named e = HereName.named t (subst (λ (k : TokenKind). Sigil the.Annotation k (byte "@")) (sym e) Sigil.annotation)

  pub other_named : (token.kind ≡ kind.Id → ⊥) → (token.kind ≡ kind.Annotation → ⊥) → Unnamed text token other
  other_named n m = Unnamed.no_name t (λ h. go h refl)
    where
      go : {k : TokenKind} → Takes Reader.name k → token.kind ≡ k → ⊥
      go (Takes.a_name Sigil.id) e = n e
      go (Takes.a_name Sigil.annotation) e = m e

pub ruleset takens = (Untaken.missing, Untaken.other_kind)

pub ruleset numbers = (Denied.missing, Denied.no_number)

pub ruleset names = (Unnamed.missing, id_named, annotation_named, other_named)
