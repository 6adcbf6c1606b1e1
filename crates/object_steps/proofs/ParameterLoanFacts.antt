-- What the bytes of a loan for a parameter hold.
use Rattle.std.proofs.Common.{◌≡◌, ◌+◌, ◌*◌, ◌≤◌, ◌∙◌, ℕ, zero, suc, List, length, replicate, ap, subst, sym, arith}
use Rattle.std.specs.Prelude.{IsTrue}
use Rattle.std.specs.List.{refill}
use Rattle.std.proofs.lemmas.List.{length-replicate}
use Rattle.dev_types.specs.Blocks.{FitsBlock, end_of}
use Rattle.dev_types.specs.DataTypes.{byte_size, is_element_type}
use Rattle.dev_types.specs.declared.data_types.DataType.{DataType}
use Rattle.object_steps.specs.ParameterLoans.{ParameterLoan, with_bytes}

-- elements without gaps end where their bytes end
without_gaps : (size count : ℕ) → end_of size size count ≤ count * size
without_gaps size zero = omega arith
without_gaps size (suc last) = let e : suc last * size ≡ size + last * size = omega arith in omega (arith, e)

pub zeros_fit : (elem : DataType) (count : ℕ) (bytes : List ℕ) → IsTrue (is_element_type elem) → bytes ≡ replicate (count * byte_size elem) 0 → FitsBlock elem (byte_size elem) count (length bytes)
zeros_fit elem count bytes element are_zero =
    let long : length bytes ≡ count * byte_size elem = ap length are_zero ∙ length-replicate (count * byte_size elem) 0 in
    (element, omega arith, subst (λ n. end_of (byte_size elem) (byte_size elem) count ≤ n) (sym long) (without_gaps (byte_size elem) count))

-- a write to the vector inside is one to the loan
pub lent_written : (l : ParameterLoan) (n : ℕ) (bytes : List ℕ) → n ≡ length l.elements.bytes → record l { elements = record l.elements { bytes = refill n l.elements.bytes bytes } } ≡ with_bytes l bytes
lent_written l n bytes e = ap (λ (k : ℕ). record l { elements = record l.elements { bytes = refill k l.elements.bytes bytes } }) e
