-- Lists of words in a row: the first and the others, and one more at the end.
use Rattle.std.proofs.Common.{◌≡◌, ℕ, zero, suc, ◌+◌, ◌<◌, List, [], ◌∷◌, ◌++◌, take, drop, map, length, codes, Some, get_or, refl, ap, sym, ◌∙◌, append_assoc, append-nil, add-one, arith}
use Rattle.std.specs.Prelude.{slice_get}
use Rattle.std.specs.List.{join_with_byte}
use Rattle.std.proofs.Math.Seq.{take-suc}
use Rattle.std.proofs.lemmas.Option.{get_or_from_slice_get, slice_get_within}
use Rattle.std.proofs.lemmas.List.{map_more}
use Rattle.dev_types.specs.Words.{name_of_type}
use Rattle.dev_types.specs.declared.data_types.DataType.{DataType}
use Rattle.ppm_out.specs.Lines.{spaced, continued, first_word, comma_before, types_word}

-- a word and others that go on behind it
pub spaced_first : (word : List ℕ) (words : List (List ℕ)) → spaced (word ∷ words) ≡ word ++ continued words
spaced_first word [] = sym (append-nil word)
spaced_first word (next ∷ words) = refl

-- the first, the second, the third and the others
pub spaced_split : (words : List (List ℕ))
    → spaced words ≡ first_word words ++ (continued (take 1 (drop 1 words)) ++ (continued (take 1 (drop 2 words)) ++ continued (drop 3 words)))
spaced_split [] = refl
spaced_split (word ∷ []) = sym (append-nil word)
spaced_split (word ∷ next ∷ []) = ap (λ t. word ++ (codes " " ++ t)) (sym (append-nil next))
spaced_split (word ∷ next ∷ third ∷ words) = ap (λ t. word ++ (codes " " ++ (next ++ (codes " " ++ t)))) (spaced_first third words)

-- one more word behind at least one
join_more : (c : ℕ) (word : List ℕ) (words : List (List ℕ)) (last : List ℕ) → join_with_byte c (word ∷ (words ++ last ∷ [])) ≡ join_with_byte c (word ∷ words) ++ (c ∷ last)
join_more c word [] last = refl
join_more c word (next ∷ words) last = ap (λ t. word ++ (c ∷ t)) (join_more c next words last) ∙ sym (append_assoc word (c ∷ join_with_byte c (next ∷ words)) (c ∷ last))

continued_more : (words : List (List ℕ)) (last : List ℕ) → continued (words ++ last ∷ []) ≡ continued words ++ (codes " " ++ last)
continued_more [] last = refl
continued_more (word ∷ words) last = ap (λ t. codes " " ++ t) (join_more 32 word words last)

-- one more of the words that go on
pub continued_next : (words : List (List ℕ)) (i : ℕ) (word : List ℕ) → slice_get words i ≡ Some word → continued (take (suc i) words) ≡ continued (take i words) ++ (codes " " ++ word)
continued_next words i word e =
    let within : i < length words = slice_get_within words i word e in
    let same : get_or words i [] ≡ word = get_or_from_slice_get words i word [] e in
    ap continued (take-suc words i [] within) ∙ continued_more (take i words) (get_or words i []) ∙ ap (λ w. continued (take i words) ++ (codes " " ++ w)) same

-- the same behind what was written before
pub written_next : (words : List (List ℕ)) (i : ℕ) (word text start out new : List ℕ) → slice_get words i ≡ Some word → text ≡ word → out ≡ start ++ continued (take i words) → new ≡ out ++ (codes " " ++ text) → new ≡ start ++ continued (take (i + 1) words)
written_next words i word text start out new e same written grown =
    grown ∙ ap (λ t. t ++ (codes " " ++ text)) written ∙ append_assoc start (continued (take i words)) (codes " " ++ text)
    ∙ ap (λ w. start ++ (continued (take i words) ++ (codes " " ++ w))) same
    ∙ ap (λ t. start ++ t) (sym (continued_next words i word e) ∙ ap (λ k. continued (take k words)) (sym (add-one i)))

-- one more name of a type behind at least one
types_more : (first : DataType) (types : List DataType) (j : ℕ) (ty : DataType) → slice_get types j ≡ Some ty → types_word (first ∷ take (suc j) types) ≡ types_word (first ∷ take j types) ++ (codes "," ++ name_of_type ty)
types_more first types j ty e =
    let within : j < length types = slice_get_within types j ty e in
    let same : get_or types j ty ≡ ty = get_or_from_slice_get types j ty ty e in
    let next : map name_of_type (take (suc j) types) ≡ map name_of_type (take j types) ++ name_of_type ty ∷ [] =
    ap (λ k. map name_of_type (take k types)) (sym (add-one j)) ∙ map_more name_of_type types j ty within ∙ ap (λ t. map name_of_type (take j types) ++ name_of_type t ∷ []) same in
    ap (λ names. join_with_byte 44 (name_of_type first ∷ names)) next ∙ join_more 44 (name_of_type first) (map name_of_type (take j types)) (name_of_type ty)

-- one more name of a type
types_next : (types : List DataType) (i : ℕ) (ty : DataType) → slice_get types i ≡ Some ty → types_word (take (suc i) types) ≡ types_word (take i types) ++ (comma_before i ++ name_of_type ty)
types_next [] i ty e = absurd (omega (arith, slice_get_within {A = DataType} [] i ty e))
types_next (first ∷ types) zero ty e = ap name_of_type (get_or_from_slice_get (first ∷ types) zero ty ty e)
types_next (first ∷ types) (suc j) ty e = types_more first types j ty e

-- the same behind what was written before
pub types_written_next : (types : List DataType) (i : ℕ) (ty : DataType) (start out new : List ℕ) → slice_get types i ≡ Some ty → out ≡ start ++ types_word (take i types) → new ≡ out ++ (comma_before i ++ name_of_type ty) → new ≡ start ++ types_word (take (i + 1) types)
types_written_next types i ty start out new e written grown =
    grown ∙ ap (λ t. t ++ (comma_before i ++ name_of_type ty)) written ∙ append_assoc start (types_word (take i types)) (comma_before i ++ name_of_type ty)
    ∙ ap (λ t. start ++ t) (sym (types_next types i ty e) ∙ ap (λ k. types_word (take k types)) (sym (add-one i)))
