-- What is entered for an unmap names only what is there.
use Rattle.std.proofs.Common.{ℕ, suc, ◌+◌, ◌*◌, ◌≡◌, ◌<◌, ◌≤◌, ◌∙◌, ◌⊎◌, inl, inr, ◌&&◌, ◌||◌, Bool, true, false, not, List, [], ◌∷◌, ◌++◌, Option, Some, None, fold, refl, sym, ap, subst, append_assoc, length, take, drop, arith, length-append, length-drop, length-take}
use Rattle.std.specs.Prelude.{cond}
use Rattle.std.specs.List.{cons_option, filter_map, list_all, range_with_len}
use Rattle.std.specs.Option.{option_and_then, option_map, option_map_or}
use Rattle.std.proofs.lemmas.Bool.{cases_eq, cases_lt}
use Rattle.std.proofs.lemmas.List.{drop-append-le, length-take-le, take-append-drop, take-append-le}
use Rattle.std.proofs.lemmas.Slice.{drop-append-drop}
use Rattle.std.proofs.Math.Nat.{mul-le-mul_right, suc-mul}
use Rattle.dev_types.proofs.BlockFacts.{part_of-with_part}
use Rattle.dev_types.specs.Blocks.{element_of, part_of, with_part}
use Rattle.dev_types.specs.DataTypes.{byte_size}
use Rattle.dev_types.specs.ValueBytes.{value_of}
use Rattle.dev_types.specs.declared.data_types.DataType.{DataType}
use Rattle.dev_types.specs.declared.data_types.DataType.TheVariants as ty
use Rattle.kind_tables.specs.SceneObjects.{Block, object_in, objects_in}
use Rattle.seq_model.specs.Contents.{bytes_for_array, bytes_for_parameter, cleaned, entered, without_element}
use Rattle.seq_model.specs.Histories.{History}
use Rattle.seq_model.specs.Legal.{Legal, are_elements_sound, content_of_array, content_of_parameter, is_content_sound}
use Rattle.seq_model.specs.Refusals.{has_type, is_array_loan_out, is_parameter_loan_out}
use Rattle.seq_model.specs.State.{ArrayState, Object, ParameterLoan, content_of_loan, object_at, parameter_loan, with_bytes}
use Rattle.seq_model.specs.Steps.{Past, after, zeros}
use Rattle.seq_model.specs.declared.calls.Call.{Call}
use Rattle.seq_model.specs.declared.calls.Call.TheVariants.{UnmapArray, UnmapParameterArray}
use Rattle.answered_calls.proofs.Strides.{AreApart, are_apart}

-- an item stands in a list
abbrev pub IsIn : {X : Type 0} → X → List X → Type 0
IsIn x [] = ⊥
IsIn x (y ∷ ys) = (x ≡ y) ⊎ IsIn x ys

is_made : {X Y : Type 0} (g : X → Option Y) (xs : List X) (x : X) (y : Y) → IsIn x xs → g x ≡ Some y → IsIn y (filter_map g xs)
is_made g [] x y there made = absurd there
is_made {Y = Y} g (z ∷ zs) x y there made = by (g z) refl there (λ later. is_made g zs x y later made)
  where
    by : (o : Option Y) → g z ≡ o → (x ≡ z) ⊎ IsIn x zs → (IsIn x zs → IsIn y (filter_map g zs)) → IsIn y (cons_option o (filter_map g zs))
    by None is (inl here) rest = let none : None ≡ Some y = sym is ∙ ap g (sym here) ∙ made in absurd cc
    by None is (inr later) rest = rest later
    by (Some v) is (inl here) rest = let same : Some v ≡ Some y = sym is ∙ ap g (sym here) ∙ made in let value : y ≡ v = cc in inl value
    by (Some v) is (inr later) rest = inr (rest later)

all_made : {X Y : Type 0} (p : Y → Bool) (g : X → Option Y) (xs : List X) → ((x : X) (y : Y) → IsIn x xs → g x ≡ Some y → p y ≡ true) → list_all p (filter_map g xs) ≡ true
all_made p g [] good = refl
all_made {Y = Y} p g (x ∷ xs) good = by (g x) refl (all_made p g xs (λ z y there made. good z y (inr there) made))
  where
    by : (o : Option Y) → g x ≡ o → list_all p (filter_map g xs) ≡ true → list_all p (cons_option o (filter_map g xs)) ≡ true
    by None is rest = rest
    by (Some y) is rest = ap (λ b. b && list_all p (filter_map g xs)) (good x y (inl refl) is) ∙ rest

-- elements that name an object have 8 bytes, and some
names_have_eight : (t : DataType) (bytes : List ℕ) (h : ℕ) → object_in (value_of t bytes) ≡ Some h → byte_size t ≡ 8
names_have_eight ty.Int32 bytes h names = absurd cc
names_have_eight ty.Uint32 bytes h names = absurd cc
names_have_eight ty.Uint32Vec2 bytes h names = absurd cc
names_have_eight ty.Uint32Vec3 bytes h names = absurd cc
names_have_eight ty.Uint64 bytes h names = absurd cc
names_have_eight ty.Scalar bytes h names = absurd cc
names_have_eight ty.ScalarVec2 bytes h names = absurd cc
names_have_eight ty.ScalarVec3 bytes h names = absurd cc
names_have_eight ty.ScalarMat34 bytes h names = absurd cc
names_have_eight ty.ScalarBox3 bytes h names = absurd cc
names_have_eight ty.Ufixed8Vec4 bytes h names = absurd cc
names_have_eight ty.Str bytes h names = absurd cc
names_have_eight ty.TypeName bytes h names = absurd cc
names_have_eight t bytes h names = refl

none_in_nothing : (t : DataType) → object_in (value_of t []) ≡ None
none_in_nothing ty.Int32 = refl
none_in_nothing ty.Camera = refl
none_in_nothing _ = refl

none_in_zeros : (t : DataType) → object_in (value_of t (zeros 8)) ≡ None
none_in_zeros ty.Int32 = refl
none_in_zeros ty.Camera = refl
none_in_zeros _ = refl

some_bytes : (t : DataType) (bytes : List ℕ) (h : ℕ) → object_in (value_of t bytes) ≡ Some h → 0 < length bytes
some_bytes t [] h names = let none : None ≡ Some h = sym (none_in_nothing t) ∙ names in absurd cc
some_bytes t (b ∷ bytes) h names = omega arith

begins_within : (t : DataType) (stride : ℕ) (bytes : List ℕ) (i h : ℕ) → object_in (element_of t stride bytes i) ≡ Some h → i * stride < length bytes
begins_within t stride bytes i h names =
    let some : 0 < length (take (byte_size t) (drop (i * stride) bytes)) = some_bytes t (part_of t stride bytes i) h names in
    omega (arith, some, length-take (byte_size t) (drop (i * stride) bytes), length-drop (i * stride) bytes)

-- a write of one element leaves the others
front_part : (front back : List ℕ) (m size : ℕ) → m + size ≤ length front → take size (drop m (front ++ back)) ≡ take size (drop m front)
front_part front back m size within =
    ap (take size) (drop-append-le m front back (omega (arith, within)))
    ∙ take-append-le size (drop m front) back (omega (arith, within, length-drop m front))

before_apart : (i j stride size : ℕ) → size ≤ stride → i < j → i * stride + size ≤ j * stride
before_apart i j stride size wide less =
    let next : suc i * stride ≤ j * stride = mul-le-mul_right stride (omega (arith, less)) in
    omega (arith, next, suc-mul i stride, wide)

other_part : (t : DataType) (stride : ℕ) (bytes part : List ℕ) (i j : ℕ) → byte_size t ≤ stride → length part ≡ byte_size t → j * stride ≤ length bytes → (i ≡ j → ⊥) →
    part_of t stride (with_part t stride bytes j part) i ≡ part_of t stride bytes i
other_part t stride bytes part i j wide sized within other = by (cases_lt i j)
  where
    front : length (take (j * stride) bytes) ≡ j * stride
    front = length-take-le (j * stride) bytes within

    earlier : i < j → i * stride + byte_size t ≤ length (take (j * stride) bytes)
    earlier less = let apart : i * stride + byte_size t ≤ j * stride = before_apart i j stride (byte_size t) wide less in omega (arith, apart, front)

    both : length (take (j * stride) bytes ++ part) ≡ j * stride + byte_size t
    both = omega (arith, length-append (take (j * stride) bytes) part, front, sized)

    later : j < i → j * stride + byte_size t ≤ i * stride
    later less = before_apart j i stride (byte_size t) wide less

    by : (i < j) ⊎ (j ≤ i) → part_of t stride (with_part t stride bytes j part) i ≡ part_of t stride bytes i
    by (inl less) =
        front_part (take (j * stride) bytes) (part ++ drop (j * stride + byte_size t) bytes) (i * stride) (byte_size t) (earlier less)
        ∙ sym (front_part (take (j * stride) bytes) (drop (j * stride) bytes) (i * stride) (byte_size t) (earlier less))
        ∙ ap (λ (bs : List ℕ). take (byte_size t) (drop (i * stride) bs)) (take-append-drop (j * stride) bytes)
    by (inr more) =
        let less : j < i = above i j more other in
        ap (λ (bs : List ℕ). take (byte_size t) (drop (i * stride) bs)) (sym (append_assoc (take (j * stride) bytes) part (drop (j * stride + byte_size t) bytes)))
        ∙ ap (take (byte_size t)) (drop-append-drop (j * stride + byte_size t) bytes (take (j * stride) bytes ++ part) (i * stride) (later less) both)
      where
        above : (i j : ℕ) → j ≤ i → (i ≡ j → ⊥) → j < i
        above i j more other = of (cases_eq i j)
          where
            of : (i ≡ j) ⊎ (i ≡ j → ⊥) → j < i
            of (inl same) = absurd (other same)
            of (inr apart) = omega (arith, more, apart)

longer : (t : DataType) (stride : ℕ) (bytes part : List ℕ) (j : ℕ) → length part ≡ byte_size t → j * stride ≤ length bytes → length bytes ≤ length (with_part t stride bytes j part)
longer t stride bytes part j sized within =
    omega (arith, length-append (take (j * stride) bytes) (part ++ drop (j * stride + byte_size t) bytes), length-append part (drop (j * stride + byte_size t) bytes), length-take (j * stride) bytes, length-drop (j * stride + byte_size t) bytes, sized, within)

-- a block of these bytes, as it is cleaned of some elements
abbrev once : Past → DataType → ℕ → List ℕ → ℕ × ℕ → List ℕ
once past t stride bytes named = cond (has_type past named.1 t) bytes (with_part t stride bytes named.0 (zeros 8))

abbrev block : DataType → ℕ → ℕ → List ℕ → Block
block t n stride bytes = record { elem = t; count = n; stride = stride; bytes = bytes }

abbrev step_by : Past → DataType → Block → ℕ × ℕ → Block
step_by past t content named = cond (has_type past named.1 t) content (without_element content named.0)

cleaned_bytes : (past : Past) (t : DataType) (n stride : ℕ) (bytes : List ℕ) (named : List (ℕ × ℕ)) →
    fold (step_by past t) (block t n stride bytes) named ≡ block t n stride (fold (once past t stride) bytes named)
cleaned_bytes past t n stride bytes [] = refl
cleaned_bytes past t n stride bytes (x ∷ xs) = by (has_type past x.1 t) (λ bs. cleaned_bytes past t n stride bs xs)
  where
    by : (b : Bool) → ((bs : List ℕ) → fold (step_by past t) (block t n stride bs) xs ≡ block t n stride (fold (once past t stride) bs xs)) →
        fold (step_by past t) (cond b (block t n stride bytes) (without_element (block t n stride bytes) x.0)) xs
        ≡ block t n stride (fold (once past t stride) (cond b bytes (with_part t stride bytes x.0 (zeros 8))) xs)
    by true rest = rest bytes
    by false rest = rest (with_part t stride bytes x.0 (zeros 8))

-- each element below n that names what is not there is still to be cleaned, and begins within the bytes
abbrev IsLeft : Past → DataType → ℕ → ℕ → List (ℕ × ℕ) → List ℕ → Type 0
IsLeft past t n stride rest bytes =
    (i h : ℕ) → IsIn i (range_with_len 0 n) → object_in (element_of t stride bytes i) ≡ Some h → (has_type past h t ≡ true) ⊎ IsIn (i, h) rest

abbrev BeginWithin : ℕ → List (ℕ × ℕ) → ℕ → Type 0
BeginWithin stride rest len = (i h : ℕ) → IsIn (i, h) rest → i * stride ≤ len

clean_left : (past : Past) (t : DataType) (n stride : ℕ) (bytes : List ℕ) (rest : List (ℕ × ℕ)) → byte_size t ≡ 8 → byte_size t ≤ stride →
    BeginWithin stride rest (length bytes) → IsLeft past t n stride rest bytes → IsLeft past t n stride [] (fold (once past t stride) bytes rest)
clean_left past t n stride bytes [] eight wide within left = left
clean_left past t n stride bytes (x ∷ xs) eight wide within left =
    by (has_type past x.1 t) refl
    (λ bs longer left. clean_left past t n stride bs xs eight wide (λ i h there. let early : i * stride ≤ length bytes = within i h (inr there) in omega (arith, early, longer)) left)
  where
    sized : length (zeros 8) ≡ byte_size t
    sized = sym eight

    first : x.0 * stride ≤ length bytes
    first = within x.0 x.1 (inl refl)

    kept : has_type past x.1 t ≡ true → IsLeft past t n stride xs bytes
    kept good i h there names = of (left i h there names)
      where
        of : (has_type past h t ≡ true) ⊎ ((i, h) ≡ x) ⊎ IsIn (i, h) xs → (has_type past h t ≡ true) ⊎ IsIn (i, h) xs
        of (inl fine) = inl fine
        of (inr (inl here)) = inl (ap (λ (named : ℕ × ℕ). has_type past named.1 t) here ∙ good)
        of (inr (inr later)) = inr later

    gone : IsLeft past t n stride xs (with_part t stride bytes x.0 (zeros 8))
    gone i h there names = of (cases_eq i x.0)
      where
        others : (i ≡ x.0 → ⊥) → (has_type past h t ≡ true) ⊎ ((i, h) ≡ x) ⊎ IsIn (i, h) xs → (has_type past h t ≡ true) ⊎ IsIn (i, h) xs
        others other (inl fine) = inl fine
        others other (inr (inl here)) = absurd (other (ap (λ (named : ℕ × ℕ). named.0) here))
        others other (inr (inr later)) = inr later

        of : (i ≡ x.0) ⊎ (i ≡ x.0 → ⊥) → (has_type past h t ≡ true) ⊎ IsIn (i, h) xs
        of (inl same) =
            let zero : object_in (element_of t stride (with_part t stride bytes x.0 (zeros 8)) x.0) ≡ None =
            ap (λ (bs : List ℕ). object_in (value_of t bs)) (part_of-with_part t stride bytes x.0 (zeros 8) sized first) ∙ none_in_zeros t in
            let none : None ≡ Some h = sym zero ∙ ap (λ i. object_in (element_of t stride (with_part t stride bytes x.0 (zeros 8)) i)) (sym same) ∙ names in
            absurd cc
        of (inr other) =
            others other
            (left i h there (sym (ap (λ (bs : List ℕ). object_in (value_of t bs)) (other_part t stride bytes (zeros 8) i x.0 wide sized first other)) ∙ names))

    by : (b : Bool) → has_type past x.1 t ≡ b → ((bs : List ℕ) → length bytes ≤ length bs → IsLeft past t n stride xs bs → IsLeft past t n stride [] (fold (once past t stride) bs xs)) →
        IsLeft past t n stride [] (fold (once past t stride) (cond b bytes (with_part t stride bytes x.0 (zeros 8))) xs)
    by true is rest = rest bytes (omega arith) (kept is)
    by false is rest = rest (with_part t stride bytes x.0 (zeros 8)) (longer t stride bytes (zeros 8) x.0 sized first) gone

-- what is left names what is there
no_names : (past : Past) (t : DataType) (n stride : ℕ) (bytes : List ℕ) → (byte_size t ≡ 8 → ⊥) → IsLeft past t n stride [] bytes
no_names past t n stride bytes other i h there names = absurd (other (names_have_eight t (part_of t stride bytes i) h names))

named_in : (t : DataType) (n stride : ℕ) (bytes : List ℕ) (i h : ℕ) → IsIn i (range_with_len 0 n) → object_in (element_of t stride bytes i) ≡ Some h →
    IsIn (i, h) (objects_in (block t n stride bytes))
named_in t n stride bytes i h there names =
    is_made (λ k. option_map {U = ℕ × ℕ} (λ h. (k, h)) (object_in (element_of t stride bytes k))) (range_with_len 0 n) i (i, h) there (ap (option_map {U = ℕ × ℕ} (λ h. (i, h))) names)

was_made : {X Y : Type 0} (g : X → Option Y) (xs : List X) (y : Y) → IsIn y (filter_map g xs) → (x : X) × (g x ≡ Some y)
was_made g [] y there = absurd there
was_made {X = X} {Y = Y} g (x ∷ xs) y there = by (g x) refl there (λ later. was_made g xs y later)
  where
    by : (o : Option Y) → g x ≡ o → IsIn y (cons_option o (filter_map g xs)) → (IsIn y (filter_map g xs) → (x : X) × (g x ≡ Some y)) → (x : X) × (g x ≡ Some y)
    by None is there rest = rest there
    by (Some v) is (inl here) rest = (x, is ∙ ap Some (sym here))
    by (Some v) is (inr later) rest = rest later

begins : (t : DataType) (n stride : ℕ) (bytes : List ℕ) → BeginWithin stride (objects_in (block t n stride bytes)) (length bytes)
begins t n stride bytes i h there =
    let made : (k : ℕ) × (option_map {U = ℕ × ℕ} (λ h. (k, h)) (object_in (element_of t stride bytes k)) ≡ Some (i, h)) =
    was_made (λ k. option_map {U = ℕ × ℕ} (λ h. (k, h)) (object_in (element_of t stride bytes k))) (range_with_len 0 n) (i, h) there in
    of made.0 (object_in (element_of t stride bytes made.0)) refl made.1
  where
    of : (k : ℕ) (o : Option ℕ) → object_in (element_of t stride bytes k) ≡ o → option_map {U = ℕ × ℕ} (λ h. (k, h)) o ≡ Some (i, h) → i * stride ≤ length bytes
    of k None is made = absurd cc
    of k (Some g) is made =
        let pair : (k, g) ≡ (i, h) = cc in
        let same : k ≡ i = ap (λ (named : ℕ × ℕ). named.0) pair in
        let less : k * stride < length bytes = begins_within t stride bytes k g is in
        let moved : i * stride < length bytes = subst (λ i. i * stride < length bytes) same less in
        omega (arith, moved)

all_left : (past : Past) (t : DataType) (n stride : ℕ) (bytes : List ℕ) → byte_size t ≤ stride →
    IsLeft past t n stride [] (fold (once past t stride) bytes (objects_in (block t n stride bytes)))
all_left past t n stride bytes wide = by (cases_eq (byte_size t) 8)
  where
    by : (byte_size t ≡ 8) ⊎ (byte_size t ≡ 8 → ⊥) → IsLeft past t n stride [] (fold (once past t stride) bytes (objects_in (block t n stride bytes)))
    by (inl eight) = clean_left past t n stride bytes (objects_in (block t n stride bytes)) eight wide (begins t n stride bytes) (λ i h there names. inr (named_in t n stride bytes i h there names))
    by (inr other) = no_names past t n stride (fold (once past t stride) bytes (objects_in (block t n stride bytes))) other

left_is_sound : (past : Past) (t : DataType) (n stride : ℕ) (bytes : List ℕ) → IsLeft past t n stride [] bytes → are_elements_sound past (block t n stride bytes) ≡ true
left_is_sound past t n stride bytes left =
    all_made (λ named. has_type past named.1 t) (λ k. option_map {U = ℕ × ℕ} (λ h. (k, h)) (object_in (element_of t stride bytes k))) (range_with_len 0 n) good
  where
    fine : (i h : ℕ) → (has_type past h t ≡ true) ⊎ ⊥ → has_type past h t ≡ true
    fine i h (inl is) = is
    fine i h (inr none) = absurd none

    of : (k : ℕ) (named : ℕ × ℕ) (o : Option ℕ) → IsIn k (range_with_len 0 n) → object_in (element_of t stride bytes k) ≡ o → option_map {U = ℕ × ℕ} (λ h. (k, h)) o ≡ Some named → has_type past named.1 t ≡ true
    of k named None there is made = absurd cc
    of k named (Some h) there is made =
        let pair : (k, h) ≡ named = cc in
        sym (ap (λ (named : ℕ × ℕ). has_type past named.1 t) pair) ∙ fine k h (left k h there is)

    good : (k : ℕ) (named : ℕ × ℕ) → IsIn k (range_with_len 0 n) → option_map {U = ℕ × ℕ} (λ h. (k, h)) (object_in (element_of t stride bytes k)) ≡ Some named → has_type past named.1 t ≡ true
    good k named there made = of k named (object_in (element_of t stride bytes k)) there refl made

cleaned_is_sound : (past : Past) (t : DataType) (n stride : ℕ) (bytes : List ℕ) → byte_size t ≤ stride →
    are_elements_sound past (with_bytes (cleaned past (block t n stride bytes)).bytes (block t n stride bytes)) ≡ true
unfolding cleaned
cleaned_is_sound past t n stride bytes wide =
    ap (λ (b : Block). are_elements_sound past (with_bytes b.bytes (block t n stride bytes))) (cleaned_bytes past t n stride bytes (objects_in (block t n stride bytes)))
    ∙ left_is_sound past t n stride (fold (once past t stride) bytes (objects_in (block t n stride bytes))) (all_left past t n stride bytes wide)

or_true : (b : Bool) (x : Bool) → x ≡ true → (b || x) ≡ true
or_true true x is = refl
or_true false x is = is

-- an unmap as it is entered, and every other call, brings sound content
array_sound : (past : Past) (h : ℕ) (bytes : List ℕ) → ((o : Object) → object_at past.state h ≡ Some o → AreApart o.array) →
    option_map_or (are_elements_sound past) (content_of_array past h (bytes_for_array past h bytes)) true ≡ true
array_sound past h bytes apart = by (object_at past.state h) apart
  where
    inner : (x : Option ArrayState) → AreApart x →
        option_map_or (are_elements_sound past) (option_map (λ a. with_bytes (option_map_or (λ a. (cleaned past (with_bytes bytes a.block)).bytes) x bytes) a.block) x) true ≡ true
    inner None apart = refl
    inner (Some a) apart = cleaned_is_sound past a.block.elem a.block.count a.block.stride bytes apart

    by : (x : Option Object) → ((o : Object) → x ≡ Some o → AreApart o.array) →
        option_map_or (are_elements_sound past)
        (option_map (λ a. with_bytes (option_map_or (λ a. (cleaned past (with_bytes bytes a.block)).bytes) (option_and_then (λ o. o.array) x) bytes) a.block) (option_and_then (λ o. o.array) x)) true ≡ true
    by None apart = refl
    by (Some o) apart = inner o.array (apart o refl)

parameter_sound : (past : Past) (h number : ℕ) (bytes : List ℕ) → option_map_or (are_elements_sound past) (content_of_parameter past h number (bytes_for_parameter past h number bytes)) true ≡ true
parameter_sound past h number bytes = by (option_and_then (λ (o : Object). parameter_loan number o.parameter_loans) (object_at past.state h))
  where
    by : (x : Option ParameterLoan) →
        option_map_or (are_elements_sound past) (option_map (λ loan. content_of_loan loan (option_map_or (λ loan. (cleaned past (content_of_loan loan bytes)).bytes) x bytes)) x) true ≡ true
    by None = refl
    by (Some loan) = cleaned_is_sound past loan.elem loan.count (byte_size loan.elem) bytes (omega arith)

-- either the loan is out, and what is entered was cleaned; or it is not, and nothing is asked of the bytes
sound_by : (out : List ℕ → Bool) (sound : List ℕ → Bool) (given made : List ℕ) → sound made ≡ true →
    (not (out (cond (out given) made given)) || sound (cond (out given) made given)) ≡ true
sound_by out sound given made cleaned = by (out given) refl
  where
    by : (is : Bool) → out given ≡ is → (not (out (cond is made given)) || sound (cond is made given)) ≡ true
    by true is = or_true (not (out made)) (sound made) cleaned
    by false is = ap (λ t. not t || sound given) is

pub entered_is_sound : (history : History) → Legal history → (call : Call) → is_content_sound (after history) (entered (after history) call) ≡ true
unfolding entered
entered_is_sound history legal (UnmapArray h number bytes) =
    sound_by (λ bs. is_array_loan_out (after history).state h number (length bs))
    (λ bs. option_map_or (are_elements_sound (after history)) (content_of_array (after history) h bs) true)
    bytes (bytes_for_array (after history) h bytes) (array_sound (after history) h bytes (are_apart history legal h))
entered_is_sound history legal (UnmapParameterArray h name number bytes) =
    sound_by (λ bs. is_parameter_loan_out (after history).state h name number (length bs))
    (λ bs. option_map_or (are_elements_sound (after history)) (content_of_parameter (after history) h number bs) true)
    bytes (bytes_for_parameter (after history) h number bytes) (parameter_sound (after history) h number bytes)
entered_is_sound history legal _ = refl
