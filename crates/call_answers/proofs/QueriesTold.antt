-- What the tables tell, and refuse, are the replies to the calls that ask for it.
use Rattle.std.proofs.Common.{◌≡◌, ◌∙◌, ◌==◌, ◌⊎◌, inl, inr, ℕ, List, [], ◌∷◌, Option, Some, None, Result, Ok, Err, length, refl, sym, ap}
use Rattle.std.specs.Prelude.{IfOk}
use Rattle.std.specs.Bool.{then_some}
use Rattle.std.specs.Option.{is_none, option_and_then, option_map, option_or}
use Rattle.dev_types.specs.declared.answers.ParamInfo.{ParamInfo}
use Rattle.dev_types.specs.declared.data_types.DataType.{DataType}
use Rattle.dev_types.specs.declared.refusals.Refused.{Refused}
use Rattle.dev_types.specs.declared.refusals.Refused.TheVariants.{BadSubtype, NoMemory, NoSuchName}
use Rattle.kind_tables.specs.Kinds.{kind_of, subtypes_of}
use Rattle.kind_tables.specs.Rows.{parameters_of, row_of}
use Rattle.kind_tables.specs.declared.kinds.Kind.{Kind}
use Rattle.kind_tables.specs.declared.rows.Row.{Row}
use Rattle.seq_model.specs.Answers.{answer, granted, info_of}
use Rattle.seq_model.specs.Refusals.{first_of, refusal, refusal_of_info, refusals_of}
use Rattle.seq_model.specs.Steps.{Past}
use Rattle.seq_model.specs.declared.calls.Call.{Call}
use Rattle.seq_model.specs.declared.calls.Call.TheVariants.{ObjectInfo, ParameterInfo, Subtypes}
use Rattle.seq_model.specs.declared.calls.Reply.{Reply}
use Rattle.seq_model.specs.declared.calls.Reply.TheVariants.{Denied, Info, Listed}
use Rattle.device_queries.specs.Refusing.{IsReason}
use Rattle.call_answers.specs.Telling.{IsReplyOf, IsTold, IsUntold}

-- a list of one refusal
alone : (x : Option Refused) → first_of (x ∷ []) ≡ x
alone None = refl
alone (Some r) = refl

by_refusals : (past : Past) (call : Call) (x : Option Refused) → first_of (refusals_of past call) ≡ x → answer past call ≡ option_or (option_map Denied x) (granted past call)
unfolding answer refusal
by_refusals past call x is = ap (λ x. option_or (option_map Denied x) (granted past call)) is

-- the subtypes of a type
of_subtypes : (past : Past) (t : DataType) (x : Option Refused) → then_some (length (subtypes_of t) == 0) NoSuchName ≡ x →
    answer past (Subtypes t) ≡ option_or (option_map Denied x) (Some (Listed (subtypes_of t)))
unfolding refusals_of
of_subtypes past t x is = by_refusals past (Subtypes t) x (alone (then_some (length (subtypes_of t) == 0) NoSuchName) ∙ is)

pub subtypes_told : (past : Past) (t : DataType) (names : List (List ℕ)) → names ≡ subtypes_of t → then_some (length (subtypes_of t) == 0) NoSuchName ≡ None →
    answer past (Subtypes t) ≡ Some (Listed names)
subtypes_told past t names are none = of_subtypes past t None none ∙ ap (λ (ns : List (List ℕ)). Some (Listed ns)) (sym are)

pub subtypes_untold : (past : Past) (t : DataType) (r : Refused) → IsReason (then_some (length (subtypes_of t) == 0) NoSuchName) r →
    (r ≡ NoMemory) ⊎ (answer past (Subtypes t) ≡ Some (Denied r))
subtypes_untold past t r (inl want) = inl want
subtypes_untold past t r (inr is) = inr (of_subtypes past t (Some r) is)

-- the parameters of a kind
of_parameters : (past : Past) (t : DataType) (s : List ℕ) (found : Option Kind) → kind_of t s ≡ found →
    answer past (ObjectInfo t s) ≡ option_or (option_map Denied (then_some (is_none found) BadSubtype)) (option_map (λ kind. Listed (parameters_of kind)) found)
unfolding refusals_of
of_parameters past t s found is =
    by_refusals past (ObjectInfo t s) (then_some (is_none found) BadSubtype) (alone (then_some (is_none (kind_of t s)) BadSubtype) ∙ ap (λ k. then_some (is_none k) BadSubtype) is)
    ∙ ap (λ k. option_or (option_map Denied (then_some (is_none found) BadSubtype)) (option_map (λ kind. Listed (parameters_of kind)) k)) is

pub parameters_told : (past : Past) (t : DataType) (s : List ℕ) (kind : Kind) (names : List (List ℕ)) → kind_of t s ≡ Some kind → names ≡ parameters_of kind →
    answer past (ObjectInfo t s) ≡ Some (Listed names)
parameters_told past t s kind names is are = of_parameters past t s (Some kind) is ∙ ap (λ (ns : List (List ℕ)). Some (Listed ns)) (sym are)

pub no_parameters : (past : Past) (t : DataType) (s : List ℕ) → kind_of t s ≡ None → answer past (ObjectInfo t s) ≡ Some (Denied BadSubtype)
no_parameters past t s none = of_parameters past t s None none

-- what is known of a parameter
of_info : (past : Past) (t : DataType) (s name : List ℕ) (found : Option Kind) → kind_of t s ≡ found →
    answer past (ParameterInfo t s name) ≡ option_or (option_map Denied (refusal_of_info found name)) (option_map (λ row. Info (info_of row)) (option_and_then (λ kind. row_of kind name) found))
unfolding refusals_of
of_info past t s name found is =
    by_refusals past (ParameterInfo t s name) (refusal_of_info found name) (alone (refusal_of_info (kind_of t s) name) ∙ ap (λ k. refusal_of_info k name) is)
    ∙ ap (λ k. option_or (option_map Denied (refusal_of_info found name)) (option_map (λ row. Info (info_of row)) (option_and_then (λ kind. row_of kind name) k))) is

pub info_told : (past : Past) (t : DataType) (s name : List ℕ) (kind : Kind) (info : ParamInfo) → kind_of t s ≡ Some kind → option_map info_of (row_of kind name) ≡ Some info →
    answer past (ParameterInfo t s name) ≡ Some (Info info)
info_told past t s name kind info is told = of_info past t s name (Some kind) is ∙ by (row_of kind name) told
  where
    by : (x : Option Row) → option_map info_of x ≡ Some info →
        option_or (option_map Denied (then_some (is_none x) NoSuchName)) (option_map (λ row. Info (info_of row)) x) ≡ Some (Info info)
    by None told = absurd cc
    by (Some row) told = ap (option_map Info) told

pub info_untold : (past : Past) (t : DataType) (s name : List ℕ) (kind : Kind) (r : Refused) → kind_of t s ≡ Some kind → IsReason (then_some (is_none (row_of kind name)) NoSuchName) r →
    (r ≡ NoMemory) ⊎ (answer past (ParameterInfo t s name) ≡ Some (Denied r))
info_untold past t s name kind r is (inl want) = inl want
info_untold past t s name kind r is (inr refused) =
    inr (of_info past t s name (Some kind) is ∙ ap (λ x. option_or (option_map Denied x) (option_map (λ row. Info (info_of row)) (row_of kind name))) refused)

pub no_info : (past : Past) (t : DataType) (s name : List ℕ) → kind_of t s ≡ None → answer past (ParameterInfo t s name) ≡ Some (Denied BadSubtype)
no_info past t s name none = of_info past t s name None none

-- what was told, or refused, is the reply
pub replied_is : (past : Past) (call : Call) (E : Type 0) (told : Result Reply Refused) (result : Result Reply E) → IfOk result (IsReplyOf told) →
    IsTold past call told → IsUntold past call told → IfOk result (λ reply. answer past call ≡ Some reply)
replied_is past call E told (Err e) is was was_not = tt
replied_is past call E (Ok r) (Ok reply) is was was_not = was ∙ ap (λ (q : Reply). Some q) (sym is)
replied_is past call E (Err refused) (Ok reply) (is, no_want) was (inl want) = absurd (no_want want)
replied_is past call E (Err refused) (Ok reply) (is, no_want) was (inr denied) = denied ∙ ap (λ (q : Reply). Some q) (sym is)
