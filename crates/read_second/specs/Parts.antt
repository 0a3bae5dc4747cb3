-- Which reference the second call returns: into which slice, from where on, and to which bytes.
use Rattle.std.specs.Prelude.{ℕ, ◌+◌, ◌≤◌, ◌<◌, ◌≡◌, List, length, take, drop}
use Rattle.std.specs.Borrow.{Bor}
use Rattle.wat.specs.declared.Refusal.{Refusal}
use Rattle.wat_values.specs.Answered.{Reading, Refused, Absent, Text, Buffer}

-- a reference to so many bytes of a slice, from a start on: their address, a block and an offset, and the bytes
pub record PartRef (s : Bor (List ℕ)) (start len : ℕ) (r : Bor (List ℕ)) : Type 0 where
  pub address : r.ref_ptr ≡ (s.ref_ptr.0, s.ref_ptr.1 + start)
  pub bytes : r.now ≡ take len (drop start s.now)

-- the same; where there are not so many, none of them, at the slice's own start
pub data PartOf (s : Bor (List ℕ)) (start len : ℕ) (r : Bor (List ℕ)) : Type 0 where
  inside : start + len ≤ length s.now → PartRef s start len r → PartOf s start len r
  outside : length s.now < start + len → PartRef s 0 0 r → PartOf s start len r

-- the part that an answer names, of the text or of the buffer; where it names none, no bytes, at the text's start
pub data PartFor (text buffer : Bor (List ℕ)) : Reading → Bor (List ℕ) → Type 0 where
  of_text : {start len : ℕ} {r : Bor (List ℕ)} → PartOf text start len r → PartFor text buffer (Text start len) r
  of_buffer : {start len : ℕ} {r : Bor (List ℕ)} → PartOf buffer start len r
      → PartFor text buffer (Buffer start len) r
  refused : {x : Refusal} {p : ℕ} {r : Bor (List ℕ)} → PartRef text 0 0 r → PartFor text buffer (Refused x p) r
  absent : {r : Bor (List ℕ)} → PartRef text 0 0 r → PartFor text buffer Absent r
