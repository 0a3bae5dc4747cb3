-- A token that a call hands out, under whatever settings, is there for the readers, who have settings of their own: 30 is
-- not their answer. Assumes nothing.
use Prim.Native.Nat.{ℕ}
use mathlib.Core.Path.{◌≡◌, subst}
use mathlib.Core.List.{List}
use Rattle.wat.specs.declared.{Settings.Settings, Token.Token, Parsed.Parsed}
use Rattle.wat.specs.declared.TokenKind.TheVariants as kind
use Rattle.wat.specs.Found.{Found}
use Rattle.wat.specs.Found as found
use Rattle.wat.specs.Lexing.{Lexed}
use Rattle.wat.specs.Calls.{Parses, Annotates}
use Rattle.wat_values.specs.Reading.{There}
use Rattle.wat.proofs.Basics.{differ}
use Rattle.wat_laws.proofs.Answers.{lexed_lenient}
use Rattle.wat_laws.proofs.OneCall.{sign_stands}

pub parses_there : {σ : Settings} {text : List ℕ} {pos : ℕ} {r : Parsed} {t : Token} → Parses σ text pos r
    → r.found ≡ found.Token t → There text t
parses_there (Parses.rejected x) e = differ (cc)
parses_there (Parses.lexes s (Lexed.end q)) e = differ (cc)
parses_there {text = text} {pos = pos} {t = t} (Parses.lexes s (Lexed.token {k = k} {n = n} l f)) e =
    let z : record { kind = k; offset = pos; len = n } ≡ t = cc in
    subst (There text) z (record { stands = s; lexed = lexed_lenient s.between (Lexed.token l f) })
parses_there (Parses.lexes s (Lexed.fails x)) e = differ (cc)

pub annotates_there : {σ : Settings} {text : List ℕ} {pos : ℕ} {r : Found} {t : Token} → Annotates σ text pos r
    → r ≡ found.Token t → There text t
annotates_there (Annotates.too_long h) e = differ (cc)
annotates_there (Annotates.not_utf8 h s) e = differ (cc)
annotates_there (Annotates.elsewhere x h) e = differ (cc)
annotates_there {text = text} {pos = pos} {t = t} (Annotates.hands_out {n = n} x g l) e =
    let s = sign_stands text pos x g in
    let z : record { kind = kind.Annotation; offset = pos; len = n } ≡ t = cc in
    subst (There text) z (record { stands = s; lexed = lexed_lenient s.between l })
annotates_there (Annotates.other x g h l) e = differ (cc)
annotates_there (Annotates.fault x g l) e = differ (cc)
