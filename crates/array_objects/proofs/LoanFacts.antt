-- What a write to the bytes of a loan leaves.
use Rattle.std.proofs.Common.{◌≡◌, ℕ, List, ◌++◌, length, take, drop, ap, sym, ◌∙◌}
use Rattle.std.proofs.Math.Seq.{take-append_seam}
use Rattle.std.specs.List.{refill}
use Rattle.array_objects.specs.Loans.{Loan, with_bytes}

-- a write to the vector inside is one to the loan
pub lent_written : (l : Loan) (n : ℕ) (bytes : List ℕ) → n ≡ length l.elements.bytes → record l { elements = record l.elements { bytes = refill n l.elements.bytes bytes } } ≡ with_bytes l bytes
lent_written l n bytes e = ap (λ (k : ℕ). record l { elements = record l.elements { bytes = refill k l.elements.bytes bytes } }) e

-- bytes that are as many as before all stand in the loan
pub refill-whole : (bytes : List ℕ) (n : ℕ) (new : List ℕ) → length new ≡ n → refill n bytes new ≡ new
refill-whole bytes n new long = ap (λ (k : ℕ). take k (new ++ drop (length new) bytes)) (sym long) ∙ take-append_seam new (drop (length new) bytes)

pub with_bytes-whole : (l : Loan) (bytes : List ℕ) → length bytes ≡ length l.elements.bytes → (with_bytes l bytes).elements.bytes ≡ bytes
with_bytes-whole l bytes long = refill-whole l.elements.bytes (length l.elements.bytes) bytes long
