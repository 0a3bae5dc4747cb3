-- The longest token of each family. Assumes nothing.
use Prim.Native.Nat.{ℕ, suc, ◌+◌, ◌≤◌}
use mathlib.Core.Path.{◌≡◌, sym, ap, ◌∙◌}
use mathlib.Core.Logic.{◌⊎◌, inl, inr, ⊎_elim}
use mathlib.Core.List.{List, [], ◌∷◌, ◌++◌}
use mathlib.Core.Bool.{true, false}
use native.Mathlib.Omega.{arith}
use lib.ListN.{length, take, drop, length-append, take-append-drop}
use lib.Seq.{length-take-le, take-append_seam}
use Rattle.wat.specs.declared.TokenKind.{TokenKind}
use Rattle.wat.specs.declared.TokenKind.TheVariants as kind
use Rattle.wat.specs.Bytes.{bytes, has, Each}
use Rattle.wat.specs.Settings.{lenient}
use Rattle.wat.specs.Chars.{idchar, space, newline}
use Rattle.wat.specs.Comments.{Spaces, LineComment, Block, BlockComment}
use Rattle.wat.specs.Tokens.{Run, Proper, Tok}
use Rattle.wat.specs.Lexing.{Longest}
use Rattle.wat.specs.RunModel.{walk}
use Rattle.wat.specs.declared.Family.{Family}
use Rattle.wat.specs.declared.Family.TheVariants.{Spaces as spaces, OpenParen as open_paren}
use Rattle.wat.specs.declared.Family.TheVariants.{Semi as semi, Run as run}
use Rattle.wat.specs.LexModel.{family, count, kind_of}
use Rattle.wat.proofs.Basics.{never, differ}
use Rattle.wat.proofs.Runs.{Stopped, ended, halted, run_stops, run_most}
use Rattle.wat.proofs.Blocks.{block_one}
use Rattle.wat.proofs.Families.{Families, is_space, is_open, is_close, is_semi, is_single, is_char, is_quote, is_other, families}
use Rattle.wat.proofs.Families.{family_space}
use Rattle.wat.proofs.OneKind.{run_token}
use Rattle.wat.proofs.Unique.{family_open, family_semi}
use Rattle.wat_laws.proofs.TokenShapes.{Told, start, count_take, count_prefix}

module _ (s : List ℕ) (m : ℕ) (h : m ≤ length s) where
  start_length : length (take m s) ≡ m
  start_length = length-take-le m s h

pub longest_one_byte : {k : TokenKind} (x : ℕ) (t : List ℕ) (f : Family) → family x ≡ f → Tok k (x ∷ [])
    → ((w : List ℕ) → Told f w → (u : List ℕ) → x ∷ t ≡ w ++ u → length w ≤ 1) → Longest (x ∷ t) k 1
longest_one_byte x t f e k g =
    record {
      fits = omega arith;
      is = k;
      most = λ j m h r. let w = g (take m (x ∷ t)) (start x t f m e r) (drop m (x ∷ t)) (sym (take-append-drop m (x ∷ t))) in
          omega (arith, start_length (x ∷ t) m h);
    }

pub longest_space : (x : ℕ) (t : List ℕ) → space x ≡ true → Longest (x ∷ t) kind.Whitespace (count space true (x ∷ t))
unfolding count
longest_space x t e =
    record {
      fits = (count_take space true (x ∷ t)).1;
      is = rw (e, count) (Tok.proper (Proper.whitespace (Spaces.spaces e (count_take space true t).0)));
      most = λ j m h r. let w =
          spaces_most (start x t spaces m (family_space x e) r) (drop m (x ∷ t)) (sym (take-append-drop m (x ∷ t))) in
          omega (arith, start_length (x ∷ t) m h);
    }
  where
    spaces_most : {w : List ℕ} → Spaces w → (u : List ℕ) → x ∷ t ≡ w ++ u → length w ≤ count space true (x ∷ t)
    spaces_most {w} (Spaces.spaces e p) u q = rw q (count_prefix space true u (Each.next e p))

pub longest_line_lem : (t : List ℕ) → Longest (0x3B ∷ 0x3B ∷ t) kind.LineComment (count newline false (0x3B ∷ 0x3B ∷ t))
unfolding count newline has
longest_line_lem t =
    record {
      fits = (count_take newline false (0x3B ∷ 0x3B ∷ t)).1;
      is = Tok.proper (Proper.line_comment (LineComment.line (count_take newline false t).0));
      most = λ j m h r. let w =
          line_most (start 0x3B (0x3B ∷ t) semi m family_semi r) (drop m (0x3B ∷ 0x3B ∷ t))
          (sym (take-append-drop m (0x3B ∷ 0x3B ∷ t))) in omega (arith, start_length (0x3B ∷ 0x3B ∷ t) m h);
    }
  where
    by_line : {w : List ℕ} → LineComment w → (u : List ℕ) → 0x3B ∷ 0x3B ∷ t ≡ w ++ u
        → length w ≤ count newline false (0x3B ∷ 0x3B ∷ t)
    by_line (LineComment.line {t = v} l) u q =
        let z : t ≡ v ++ u = cc in
        let k : count newline false t ≡ count newline false (v ++ u) = ap (count newline false) z in
        let i = count_prefix newline false u l in
        omega arith

    line_most : {w : List ℕ} → (w ≡ bytes ";") ⊎ LineComment w → (u : List ℕ) → 0x3B ∷ 0x3B ∷ t ≡ w ++ u
        → length w ≤ count newline false (0x3B ∷ 0x3B ∷ t)
    line_most (inl e) u q = omega (arith, ap length e)
    line_most (inr l) u q = by_line l u q

longest_block : {v : List ℕ} (u : List ℕ) → Block v → Longest (0x28 ∷ 0x3B ∷ (v ++ u)) kind.BlockComment (2 + length v)
longest_block {v} u b = rw (two (length v))
    (record {
      fits = omega (arith, length-append v u);
      is = rw (take-append_seam v u) (Tok.proper (Proper.block_comment (BlockComment.block b)));
      most = λ j m h r. let w =
          block_most (start 0x28 (0x3B ∷ (v ++ u)) open_paren m family_open r) (drop m (0x28 ∷ 0x3B ∷ (v ++ u)))
          (sym (take-append-drop m (0x28 ∷ 0x3B ∷ (v ++ u)))) in omega (arith, start_length (0x28 ∷ 0x3B ∷ (v ++ u)) m h);
    })
  where
    two : (n : ℕ) → 2 + n ≡ suc (suc n)
    two n = omega arith

    by_block : {w : List ℕ} → BlockComment w → (z : List ℕ) → 0x28 ∷ 0x3B ∷ (v ++ u) ≡ w ++ z
        → length w ≤ suc (suc (length v))
    by_block (BlockComment.block {u = y} p) z q = let i = (block_one u z b p (cc)).0 in omega (arith, ap length i)

    block_most : {w : List ℕ} → (w ≡ bytes "(") ⊎ BlockComment w → (z : List ℕ) → 0x28 ∷ 0x3B ∷ (v ++ u) ≡ w ++ z
        → length w ≤ suc (suc (length v))
    block_most (inl e) z q = omega (arith, ap length e)
    block_most (inr l) z q = by_block l z q

run_byte : (x : ℕ) → family x ≡ run → (idchar x ≡ true) ⊎ (x ≡ 0x22)
run_byte x f = go (families x) f
  where
    go : {f : Family} → Families x f → f ≡ run → (idchar x ≡ true) ⊎ (x ≡ 0x22)
    go (is_space h) s = differ (cc)
    go (is_open h) s = differ (cc)
    go (is_close h) s = differ (cc)
    go (is_semi h) s = differ (cc)
    go (is_single h n) s = differ (cc)
    go (is_char h) s = inl h
    go (is_quote h) s = inr h
    go (is_other h) s = differ (cc)

not_stopped : {l : List ℕ} (x : ℕ) (t : List ℕ) → family x ≡ run → Stopped l → l ≡ x ∷ t → ⊥
not_stopped x t f ended e = let y : ◌≡◌ {A = ℕ} 0 1 = cc in omega arith
not_stopped x t f (halted {x = y} g n) e = let q : x ≡ y = cc in
    ⊎_elim (λ h. never (rw q at h) g) (λ h. n (sym q ∙ h)) (run_byte x f)

-- the same at a text and a length that equal those
pub block_at : {s : List ℕ} {n : ℕ} (v u : List ℕ) → s ≡ 0x28 ∷ 0x3B ∷ (v ++ u) → n ≡ length v → Block v
    → Longest s kind.BlockComment (2 + n)
block_at v u e l b = rw (e, l) (longest_block u b)

pub longest_run : {w : List ℕ} (x : ℕ) (t u : List ℕ) → x ∷ t ≡ w ++ u → Run lenient w → Stopped u
    → family x ≡ run → Longest (x ∷ t) (kind_of w) (length w)
longest_run {w} x t u q r z f =
    record {
      fits = omega (arith, ap length q, length-append w u);
      is = rw (q, take-append_seam w u) (whole w r q);
      most = λ j m h k. let i =
          run_most (drop m (x ∷ t)) fuel (length w) (start x t run m f k) (omega (arith, start_length (x ∷ t) m h))
          (ap (walk lenient fuel) (take-append-drop m (x ∷ t) ∙ q)
          ∙ run_stops fuel r z (omega (arith, ap length q, length-append w u))) in
          omega (arith, start_length (x ∷ t) m h);
    }
  where
    fuel : ℕ
    fuel = suc (length (x ∷ t))

    whole : (w : List ℕ) → Run lenient w → x ∷ t ≡ w ++ u → Tok (kind_of w) w
    whole [] r q = absurd (not_stopped x t f z (sym q))
    whole (y ∷ v) r q = run_token y v r
