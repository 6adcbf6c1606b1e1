-- Tables by their names, and one more of what is written.
use Rattle.std.proofs.Common.{◌≡◌, ℕ, ◌+◌, ◌<◌, ◌≤◌, Bool, true, false, Bor, List, [], ◌∷◌, ◌++◌, take, map, get_or, length, Some, refl, ap, sym, ◌∙◌, add-one, suc, arith}
use Rattle.std.specs.Prelude.{slice_get}
use Rattle.std.specs.List.{flat_map, list_all}
use Rattle.std.proofs.Math.Seq.{take-suc}
use Rattle.std.proofs.lemmas.List.{flat_map_more, get_or-map, length-map, take_all}
use Rattle.std.proofs.lemmas.List.Folds.{list_all_at}
use Rattle.std.proofs.lemmas.Option.{get_or_from_slice_get, slice_get_within}
use Rattle.dev_types.specs.Bounded.{is_name}
use Rattle.kind_tables.specs.Rows.{parameters_of, rows_of}
use Rattle.kind_tables.specs.declared.kinds.Kind.{Kind}
use Rattle.kind_tables.specs.declared.kinds.Kind.TheVariants.{Array}
use Rattle.table_text.specs.Tables.{line_named, parameter_line}

-- the lines of a kind's parameters by their names
pub lines_by_name : (kind : Kind) → flat_map (line_named kind) (parameters_of kind) ≡ flat_map parameter_line (rows_of kind)
lines_by_name (Array elem) = refl
lines_by_name _ = refl

-- the same where the names were read from the table
pub all_lines : (kind : Kind) (names : List (Bor (List ℕ))) (n : ℕ) → length names ≤ n → map (λ name. name.now) names ≡ parameters_of kind →
    flat_map (line_named kind) (map (λ name. name.now) (take n names)) ≡ flat_map parameter_line (rows_of kind)
all_lines kind names n all known =
    ap (λ (ns : List (Bor (List ℕ))). flat_map (line_named kind) (map (λ (name : Bor (List ℕ)). name.now) ns)) (take_all n names all)
    ∙ ap (flat_map (line_named kind)) known ∙ lines_by_name kind

-- a test that all pass is passed by each
passed : (b all : Bool) → (b ≡ false → all ≡ false) → all ≡ true → b ≡ true
passed true all at_false is = refl
passed false all at_false is = let failed : all ≡ false = at_false refl in cc

-- each of some names is a name
pub named_at : (names : List (Bor (List ℕ))) (i : ℕ) (d : Bor (List ℕ)) → i < length names → list_all is_name (map (λ name. name.now) names) ≡ true →
    is_name (get_or names i d).now ≡ true
named_at names i d within all =
    let there : i < length (map (λ (name : Bor (List ℕ)). name.now) names) = omega (arith, length-map names (λ (name : Bor (List ℕ)). name.now)) in
    let e : get_or (map (λ name. name.now) names) i d.now ≡ (get_or names i d).now = get_or-map (λ name. name.now) names i d d.now within in
    ap is_name (sym e)
    ∙ passed (is_name (get_or (map (λ name. name.now) names) i d.now)) (list_all is_name (map (λ name. name.now) names))
    (λ failed. list_all_at is_name (map (λ name. name.now) names) i d.now there failed) all

-- one more, behind what was written before
pub written_next : {X : Type 0} (text : X → List ℕ) (xs : List X) (i : ℕ) (x : X) (out new : List ℕ) → slice_get xs i ≡ Some x →
    out ≡ flat_map text (take i xs) → new ≡ out ++ text x → new ≡ flat_map text (take (i + 1) xs)
written_next text xs i x out new at written grown =
    let within : i < length xs = slice_get_within xs i x at in
    let same : get_or xs i x ≡ x = get_or_from_slice_get xs i x x at in
    let next : take (suc i) xs ≡ take i xs ++ x ∷ [] = take-suc xs i x within ∙ ap (λ y. take i xs ++ y ∷ []) same in
    grown ∙ ap (λ bytes. bytes ++ text x) written ∙ flat_map_more text [] (take i xs) x
    ∙ ap (flat_map text) (sym next) ∙ ap (λ k. flat_map text (take k xs)) (sym (add-one i))
