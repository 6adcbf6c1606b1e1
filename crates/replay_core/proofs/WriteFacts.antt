-- What is written fits the type of the elements.
use Rattle.std.proofs.Common.{◌≡◌, ◌∙◌, ◌+◌, ◌<◌, ℤ, ℕ, Bool, true, false, List, ◌∷◌, ap, drop, get_or, Option, Some, None, Result, Ok, Err, IfOk, IfSome, IsTrue, refl, sym, subst}
use Rattle.std.specs.Prelude.{cond}
use Rattle.std.proofs.lemmas.List.{drop_more}
use Rattle.array_objects.specs.Loans.{Loan}
use Rattle.call_answers.specs.Named.{block_of}
use Rattle.replay_core.specs.Held.{holding}
use Rattle.replay_core.specs.Labels.{Meaning}
use Rattle.replay_core.specs.Loans.{with_write, written}
use Rattle.trace_text.specs.declared.calls.Write.{Write}
use Rattle.std.specs.Option.{option_and_then}
use Rattle.dev_types.specs.ValueBytes.{are_bytes_of, decoded, is_well_typed, type_of, value_of}
use Rattle.dev_types.specs.declared.data_types.DataType.{DataType}
use Rattle.dev_types.specs.declared.data_types.DataType.TheVariants as ty
use Rattle.dev_types.specs.declared.values.Value.{Value}
use Rattle.trace_text.specs.Components.{bytes_of_numbers, component_count, value_of_numbers}
use Rattle.std.specs.Prelude.{◌&&◌, ◌==◌, nat_lt, length}

-- the value is one of the type
abbrev pub FitsType : DataType → Value → Type 0
FitsType t v = (type_of v ≡ t) × IsTrue (is_well_typed v)

value_fits : (t : DataType) (bytes : List ℕ) → FitsType t (value_of t bytes)
value_fits ty.Int32 bytes = (refl, refl)
value_fits ty.Camera bytes = (refl, refl)
value_fits _ bytes = (refl, refl)

decoded_fits : (t : DataType) (bytes : List ℕ) → IfSome (decoded t bytes) (FitsType t)
decoded_fits t bytes = by (are_bytes_of t bytes)
  where
    by : (b : Bool) → IfSome (cond b (Some (value_of t bytes)) None) (FitsType t)
    by true = value_fits t bytes
    by false = tt

numbers_fit : (t : DataType) (zs : List ℤ) → IfSome (value_of_numbers t zs) (FitsType t)
numbers_fit t zs = by (nat_lt 0 (component_count t) && (length zs == component_count t)) (bytes_of_numbers t zs)
  where
    by : (b : Bool) (x : Option (List ℕ)) → IfSome (cond b (option_and_then (decoded t) x) None) (FitsType t)
    by true None = tt
    by true (Some bytes) = decoded_fits t bytes
    by false x = tt

pub written_fits : {E : Type 0} (r : Result (Option Value) E) (t : DataType) (zs : List ℤ) → IfOk r (λ v. v ≡ value_of_numbers t zs) → IfOk r (λ v. IfSome v (FitsType t))
written_fits (Ok v) t zs is = subst (λ v. IfSome v (FitsType t)) (sym is) (numbers_fit t zs)
written_fits (Err e) t zs is = tt

-- one more is written into a loan
pub lent_more : (meaning : Meaning) (writes : List Write) (i : ℕ) (w : Write) (l next all : Loan) → i < length writes → w ≡ get_or writes i w
    → next ≡ holding (with_write meaning (block_of l.elements) w) l
    → holding (written meaning (drop i writes) (block_of l.elements)) l ≡ all
    → holding (written meaning (drop (i + 1) writes) (block_of next.elements)) next ≡ all
lent_more meaning writes i w l next all below at is so_far =
    ap (λ (n : Loan). holding (written meaning (drop (i + 1) writes) (block_of n.elements)) n) is
    ∙ ap (λ ys. holding (written meaning ys (block_of l.elements)) l) (sym (drop_more writes i w below ∙ ap (λ x. x ∷ drop (i + 1) writes) (sym at)))
    ∙ so_far
