-- The listing's loop: the tokens up to a place have been walked over, and the list begins with their records. Assumes nothing.
use Prim.Native.Nat.{ℕ, ◌+◌, ◌-◌, ◌*◌, ◌≤◌, ◌<◌}
use mathlib.Core.Path.{◌≡◌, refl, sym, ap, ◌∙◌, subst}
use mathlib.Core.List.{List, [], ◌∷◌, ◌++◌}
use Rattle.std.specs.Prelude.{Option, Some, None}
use native.Mathlib.Omega.{arith}
use lib.ListN.{length, take, drop, length-append, take-append-drop}
use lib.Seq.{drop-drop, take-append_seam, drop-append_seam}
use Rattle.wat.specs.declared.{TokenKind.TokenKind, Settings.Settings, Fault.Fault}
use Rattle.wat.specs.Answers.{Answer}
use Rattle.wat.specs.declared.Refusal.TheVariants.{Lexical}
use Rattle.wat.specs.Stopped.{Stopped}
use Rattle.wat.specs.Answers as answer
use Rattle.wat.specs.Stopped as stop
use Rattle.wat.specs.Cases.{kind_number}
use Rattle.wat.specs.Lexing.{Lexed}
use Rattle.wat.specs.LexModel.{lex}
use Rattle.wat.specs.Calls.{Stands}
use Rattle.wat.specs.Division.{Piece, Walked, little, record_size, record_of, records, Stops, Listing}
use Rattle.wat_laws.proofs.Total.{lexed}
use Rattle.wat_laws.proofs.Walks.{walked_start, walked_more, records_length, records_more}
use Rattle.buffers.specs.Writing.{Put}
use Rattle.buffers.proofs.PutLaws.{put_front, put_back, put_length}
use Rattle.lex_token.specs.declared.Step.{Step}
use Rattle.lex_token.specs.Steps.{Stepped, Faults}
use Rattle.lex_token.proofs.StepLaws.{token_of, fault_of}

-- ---- the loop

pub record Goes (σ : Settings) (text : List ℕ) (start budget : ℕ) (old out : List ℕ) (at n : ℕ) : Type 0 where
  pub tokens : List Piece
  pub walked : Walked σ text start at tokens
  pub many : length tokens ≡ n
  pub few : n ≤ budget
  pub room : record_size * n ≤ length out
  pub len : length out ≡ length old
  pub bytes : out ≡ records (drop start text) tokens ++ drop (record_size * n) old

pub goes_start : (σ : Settings) (text : List ℕ) (start budget : ℕ) (old : List ℕ) → Stands text start
    → Goes σ text start budget old old start 0
goes_start σ text start budget old s =
    record { tokens = []; walked = walked_start σ text s; many = refl; few = omega arith; room = omega arith; len = refl; bytes = refl }

module _ {σ : Settings} {text : List ℕ} {start budget : ℕ} {old out : List ℕ} {at n : ℕ} (b : Stands text start)
    (g : Goes σ text start budget old out at n) where
  abbrev pub Done : Stopped → ℕ → Type 0
  Done why p = Listing σ text start budget old (record { stop = why; count = n; position = p }) out

  -- where the definitions stop, the answer is theirs
  pub goes_stops : {why : Stopped} {p : ℕ} → Stops σ text budget (length old) n at why p → Done why p
  goes_stops {why} {p} s =
      let ts = g.tokens in
      let e = g.many in
      let l : Listing σ text start budget old (record { stop = why; count = length ts; position = p })
      (records (drop start text) ts ++ drop (record_size * length ts) old) =
      Listing.lists b g.walked (omega (arith, g.few)) (omega (arith, g.room, g.len))
      (subst (λ (i : ℕ). Stops σ text budget (length old) i at why p) (sym e) s) in
      subst (λ (o : List ℕ). Listing σ text start budget old (record { stop = why; count = n; position = p }) o) (sym g.bytes)
      (subst (λ (i : ℕ). Listing σ text start budget old (record { stop = why; count = i; position = p })
      (records (drop start text) ts ++ drop (record_size * i) old)) e l)

  pub goes_end : length text ≤ at → Done stop.End at
  goes_end h = goes_stops (Stops.end (omega (arith, g.walked.stands.within)))

  pub goes_budget : at < length text → n ≡ budget → Done stop.Budget at
  goes_budget h q = goes_stops (Stops.budget h q)

  lexes : {a : Answer} → lex σ (drop at text) ≡ a → Lexed σ (drop at text) a
  lexes e = subst (λ (a : Answer). Lexed σ (drop at text) a) e (lexed σ g.walked.stands.between)

  pub goes_refused : {r : Option Step} {f : Fault} → Stepped σ text at r → at < length text → (n ≡ budget → ⊥) → r ≡ None
      → Faults at (lex σ (drop at text)) f → Done (stop.Refused (Lexical f.error) f.place) f.after
  goes_refused {r} {f} s h q z fs =
      let e = fault_of s h g.walked.stands.between z in
      subst (λ (x : Fault). Done (stop.Refused (Lexical x.error) x.place) x.after) (sym (fs.is e.0 e.1))
      (goes_stops (Stops.fault (omega (arith, g.few)) (lexes e.1)))

  pub goes_full : {r : Option Step} {x : Step} {used : ℕ} → Stepped σ text at r → (n ≡ budget → ⊥) → r ≡ Some x
      → used ≡ record_size * n
      → length out - used < record_size → Done stop.Full at
  goes_full s q z u h =
      let t = token_of s z in
      goes_stops (Stops.full (omega (arith, g.few)) (omega (arith, g.len)) (lexes t.1))

  -- one token more, with its record
  goes_more : (new : List ℕ) (k : TokenKind) (m : ℕ) → Lexed σ (drop at text) (answer.Token k m) → (n ≡ budget → ⊥)
      → record_size * n + record_size ≤ length out
      → Put out new (record_size * n) (record_of (take m (drop at text)) (record { kind = k; len = m }))
      → Goes σ text start budget old new (at + m) (n + 1)
  goes_more new k m l q h put =
      let t : Piece = record { kind = k; len = m } in
      let ts = g.tokens in
      let to = record_size * n in
      let v = record_of (take m (drop at text)) t in
      let r = records (drop start text) ts in
      let same : length new ≡ length out = put_length out new to v put in
      let long : length r ≡ to = records_length (drop start text) ts ∙ ap (λ (i : ℕ). record_size * i) g.many in
      let six : record_size * (n + 1) ≡ to + record_size = omega arith in
      let front : take to out ≡ r =
      ap (take to) g.bytes ∙ ap (λ (i : ℕ). take i (r ++ drop to old)) (sym long) ∙ take-append_seam r (drop to old) in
      let back : drop to out ≡ drop to old =
      ap (drop to) g.bytes ∙ ap (λ (i : ℕ). drop i (r ++ drop to old)) (sym long) ∙ drop-append_seam r (drop to old) in
      let rest : drop (to + record_size) new ≡ drop (to + record_size) old =
      put_back out new to v put ∙ sym (drop-drop record_size to out) ∙ ap (drop record_size) back ∙ drop-drop record_size to old in
      record {
        tokens = ts ++ (t ∷ []);
        walked = walked_more σ text g.walked l;
        many = omega (arith, length-append ts (t ∷ []), g.many);
        few = omega (arith, g.few);
        room = omega arith;
        len = same ∙ g.len;
        bytes =
            sym (take-append-drop (to + record_size) new)
            ∙ ap (λ (x : List ℕ). x ++ drop (to + record_size) new)
            (put_front out new to v put ∙ ap (λ (x : List ℕ). x ++ v) front
            ∙ sym (records_more text start at ts t g.walked.place))
            ∙ ap (λ (x : List ℕ). records (drop start text) (ts ++ (t ∷ [])) ++ x)
            (rest ∙ ap (λ (i : ℕ). drop i old) (sym six));
      }

  pub goes_stepped : {r : Option Step} {x : Step} {used : ℕ} (new : List ℕ) → Stepped σ text at r → (n ≡ budget → ⊥)
      → r ≡ Some x → used ≡ record_size * n → record_size ≤ length out - used
      → Put out new used (little 4 (x.end - at) ++ little 2 (kind_number x.kind)) → Goes σ text start budget old new x.end (n + 1)
  goes_stepped {r} {x} {used} new s q z u h p =
      let t = token_of s z in
      let m : x.end - at ≡ t.0 = omega (arith, t.2) in
      let put : Put out new (record_size * n) (little 4 t.0 ++ little 2 (kind_number x.kind)) = rw (← u, ← m) p in
      rw t.2 (goes_more new x.kind t.0 (lexes t.1) q (omega arith) put)

-- what the loop and the call of the listing answer
pub ruleset goings = (goes_start, goes_end, goes_budget, goes_full, goes_stepped)

pub ruleset refusals = (Listing.rejected)
