-- Data of ASCII texts, small whole numbers and rising keys: how long its text is, and that it is what the text is read as,
-- also with a newline behind it.
use Rattle.std.proofs.Common.{◌≡◌, ℕ, suc, ◌+◌, ◌*◌, ◌≤◌, ◌&&◌, max, pos, negsuc, Bool, true, false, cond, List, [], ◌∷◌, ◌++◌, Some, length, refl, ap, ap₂, sym, ◌∙◌, arith, append-nil, length-append, ltb-true, nat_lt, Ordering, Less, Equal, Greater, nat_cmp, IsUtf8}
use Rattle.std.specs.Prelude.{option_map, option_and_then}
use Rattle.std.specs.Cmp.Lexicographic.{slice_cmp}
use Rattle.std.specs.Ordering.{match_ordering}
use Rattle.std.proofs.lemmas.Bool.{and_parts}
use Rattle.std.proofs.lemmas.Fmt.{IsAscii-decimal, IsAscii-signed, length-decimal-le, length_signed_le}
use Rattle.std.proofs.lemmas.Str.{IsUtf8-append, IsUtf8-from_ascii}
use Rattle.json.specs.Json as json
use Rattle.json.specs.Lex.{tokens}
use Rattle.json.specs.Print.{escape, escape_byte, escape_letter, quoted, IsNumber}
use Rattle.json.specs.Tree as tree
use Rattle.json.specs.Tree.{json_tokens, HasNumbers, ItemsHaveNumbers, MembersHaveNumbers}
use Rattle.json.proofs.Printed.Decimals.{IsNumber-decimal, IsNumber-signed_decimal}
use Rattle.json.proofs.Printed.Tokens.{tokens-print}
use Rattle.json.proofs.Printed.Trees.{ArePrintable-json_tokens, value-json_tokens}
use Rattle.json.proofs.Printed.Utf8.{are_ascii, IsUtf8-are_ascii, IsUtf8-boolean, IsUtf8-quoted}
use Rattle.serde_json.specs.Data.{Num, unsigned, negative, float, Data, null, boolean, number, string, array, object, Items, no_items, item, Members, no_members, member, put, depth, items_depth, members_depth}
use Rattle.serde_json.specs.Read.{number_of, of_json, of_items, of_members, read}
use Rattle.serde_json.specs.Written.{number_text, outline, items_outline, members_outline, comma_if, compact_text, items_text, members_text}
use Rattle.serde_json.proofs.Numbers.{number_of-decimal, number_of-negative}
use Rattle.serde_json.proofs.Texts.{print-outline}
use Rattle.made_traces.proofs.Newline.{tokens-newline}

-- ---- plain data

-- a whole number from -2^32 to 2^32 - 1
abbrev pub is_small : Num → Bool
is_small (unsigned n) = nat_lt n 4294967296
is_small (negative (pos n)) = false
is_small (negative (negsuc n)) = nat_lt n 4294967296
is_small (float x) = false

-- members with one more at their end, and with others behind them
abbrev push : Members → List ℕ → Data → Members
push no_members k d = member k d no_members
push (member l e ms) k d = member l e (push ms k d)

abbrev joined : Members → Members → Members
joined no_members ms = ms
joined (member l e found) ms = member l e (joined found ms)

-- a key is above all that were found, and each key of members is above all before it
abbrev is_above : List ℕ → Members → Bool
is_above k no_members = true
is_above k (member l e ms) = match_ordering (slice_cmp nat_cmp k l) false false true && is_above k ms

abbrev rises : Members → Members → Bool
rises found no_members = true
rises found (member k d ms) = is_above k found && rises (push found k d) ms

-- texts of ASCII, small whole numbers, and members by rising keys
abbrev mutual
  pub is_plain : Data → Bool
  is_plain null = true
  is_plain (boolean b) = true
  is_plain (number n) = is_small n
  is_plain (string s) = are_ascii s
  is_plain (array ds) = items_plain ds
  is_plain (object ms) = members_plain ms && rises no_members ms

  pub items_plain : Items → Bool
  items_plain no_items = true
  items_plain (item d ds) = is_plain d && items_plain ds

  pub members_plain : Members → Bool
  members_plain no_members = true
  members_plain (member k d ms) = are_ascii k && (is_plain d && members_plain ms)

-- no fewer than the bytes of the text
abbrev mutual
  pub weight : Data → ℕ
  weight null = 4
  weight (boolean b) = 5
  weight (number n) = 11
  weight (string s) = 2 + 6 * length s
  weight (array ds) = 2 + items_weight ds
  weight (object ms) = 2 + members_weight ms

  pub items_weight : Items → ℕ
  items_weight no_items = 0
  items_weight (item d ds) = 1 + weight d + items_weight ds

  pub members_weight : Members → ℕ
  members_weight no_members = 0
  members_weight (member k d ms) = 4 + 6 * length k + weight d + members_weight ms

-- ---- members that are put in one after the other

last_case : {A : Type 0} (o : Ordering) (x y z : A) → match_ordering o false false true ≡ true → match_ordering o x y z ≡ z
last_case Less x y z h = absurd cc
last_case Equal x y z h = absurd cc
last_case Greater x y z h = refl

put-above : (k : List ℕ) (d : Data) (found : Members) → is_above k found ≡ true → put k d found ≡ push found k d
put-above k d no_members h = refl
put-above k d (member l e ms) h = let p = and_parts _ _ h in last_case (slice_cmp nat_cmp k l) _ _ _ p.0 ∙ ap (member l e) (put-above k d ms p.1)

joined-push : (found ms : Members) (k : List ℕ) (d : Data) → joined (push found k d) ms ≡ joined found (member k d ms)
joined-push no_members ms k d = refl
joined-push (member l e found) ms k d = ap (member l e) (joined-push found ms k d)

joined-nothing : (found : Members) → joined found no_members ≡ found
joined-nothing no_members = refl
joined-nothing (member l e found) = ap (member l e) (joined-nothing found)

-- ---- what is written reads as the data

number-back : (n : Num) → is_small n ≡ true → number_of (number_text n) ≡ Some n
number-back (unsigned n) h = let few = ltb-true _ _ h in number_of-decimal n (omega (arith, few))
number-back (negative (pos n)) h = absurd cc
number-back (negative (negsuc n)) h = let few = ltb-true _ _ h in number_of-negative n (omega (arith, few))
number-back (float x) h = absurd cc

mutual
  data-back : (d : Data) → is_plain d ≡ true → of_json (outline d) ≡ Some d
  data-back null h = refl
  data-back (boolean b) h = refl
  data-back (number n) h = ap (option_map number) (number-back n h)
  data-back (string s) h = refl
  data-back (array ds) h = ap (option_map array) (items-back ds h)
  data-back (object ms) h = let p = and_parts _ _ h in ap (option_map object) (members-back no_members ms p.0 p.1)

  items-back : (ds : Items) → items_plain ds ≡ true → of_items (items_outline ds) ≡ Some ds
  items-back no_items h = refl
  items-back (item d ds) h =
      let p = and_parts _ _ h in
      ap (option_and_then (λ e. option_map (item e) (of_items (items_outline ds)))) (data-back d p.0) ∙ ap (option_map (item d)) (items-back ds p.1)

  members-back : (found ms : Members) → members_plain ms ≡ true → rises found ms ≡ true → of_members (members_outline ms) found ≡ Some (joined found ms)
  members-back found no_members h rising = ap Some (sym (joined-nothing found))
  members-back found (member k d ms) h rising =
      let p = and_parts _ _ (and_parts _ _ h).1 in
      let q = and_parts _ _ rising in
      ap (option_and_then (λ e. of_members (members_outline ms) (put k e found))) (data-back d p.0)
      ∙ ap (of_members (members_outline ms)) (put-above k d found q.0) ∙ members-back (push found k d) ms p.1 q.1 ∙ ap Some (joined-push found ms k d)

number-is : (n : Num) → is_small n ≡ true → IsNumber (number_text n)
number-is (unsigned n) h = let few = ltb-true _ _ h in IsNumber-decimal n (omega (arith, few))
number-is (negative (pos n)) h = absurd cc
number-is (negative (negsuc n)) h = let few = ltb-true _ _ h in IsNumber-signed_decimal (negsuc n) (omega (arith, few))
number-is (float x) h = absurd cc

mutual
  data-numbers : (d : Data) → is_plain d ≡ true → HasNumbers (outline d)
  data-numbers null h = tt
  data-numbers (boolean b) h = tt
  data-numbers (number n) h = number-is n h
  data-numbers (string s) h = tt
  data-numbers (array ds) h = items-numbers ds h
  data-numbers (object ms) h = members-numbers ms (and_parts _ _ h).0

  items-numbers : (ds : Items) → items_plain ds ≡ true → ItemsHaveNumbers (items_outline ds)
  items-numbers no_items h = tt
  items-numbers (item d ds) h = let p = and_parts _ _ h in (data-numbers d p.0, items-numbers ds p.1)

  members-numbers : (ms : Members) → members_plain ms ≡ true → MembersHaveNumbers (members_outline ms)
  members-numbers no_members h = tt
  members-numbers (member k d ms) h = let p = and_parts _ _ (and_parts _ _ h).1 in (data-numbers d p.0, members-numbers ms p.1)

mutual
  outline-depth : (d : Data) → tree.depth (outline d) ≡ depth d
  outline-depth null = refl
  outline-depth (boolean b) = refl
  outline-depth (number n) = refl
  outline-depth (string s) = refl
  outline-depth (array ds) = ap suc (outline-items_depth ds)
  outline-depth (object ms) = ap suc (outline-members_depth ms)

  outline-items_depth : (ds : Items) → tree.items_depth (items_outline ds) ≡ items_depth ds
  outline-items_depth no_items = refl
  outline-items_depth (item d ds) = ap₂ max (outline-depth d) (outline-items_depth ds)

  outline-members_depth : (ms : Members) → tree.members_depth (members_outline ms) ≡ members_depth ms
  outline-members_depth no_members = refl
  outline-members_depth (member k d ms) = ap₂ max (outline-depth d) (outline-members_depth ms)

pub read-with_newline : (d : Data) → is_plain d ≡ true → depth d ≤ 127 → read (compact_text d ++ 10 ∷ []) ≡ Some d
read-with_newline d h shallow =
    let printed = tokens-newline (compact_text d) ∙ ap tokens (sym (print-outline d)) ∙ tokens-print (json_tokens (outline d)) (ArePrintable-json_tokens (outline d) (data-numbers d h)) in
    let within = outline-depth d in
    ap (λ ts. option_and_then of_json (option_and_then (λ p. json.if_last p.0 p.1) (json.value 127 ts))) (printed ∙ sym (append-nil (json_tokens (outline d))))
    ∙ ap (λ o. option_and_then of_json (option_and_then (λ p. json.if_last p.0 p.1) o)) (value-json_tokens (outline d) 127 [] (omega (arith, within, shallow)))
    ∙ data-back d h

-- ---- the text is UTF-8

number-utf8 : (n : Num) → is_small n ≡ true → IsUtf8 (number_text n)
number-utf8 (unsigned n) h = let few = ltb-true _ _ h in IsUtf8-from_ascii _ (IsAscii-decimal n (omega (arith, few)))
number-utf8 (negative (pos n)) h = absurd cc
number-utf8 (negative (negsuc n)) h = let few = ltb-true _ _ h in IsUtf8-from_ascii _ (IsAscii-signed (negsuc n) (omega (arith, few)))
number-utf8 (float x) h = absurd cc

comma-utf8 : (later : Bool) → IsUtf8 (comma_if later)
comma-utf8 true = IsUtf8-are_ascii (44 ∷ []) refl
comma-utf8 false = IsUtf8-are_ascii [] refl

mutual
  pub text-utf8 : (d : Data) → is_plain d ≡ true → IsUtf8 (compact_text d)
  text-utf8 null h = IsUtf8-are_ascii _ refl
  text-utf8 (boolean b) h = IsUtf8-boolean b
  text-utf8 (number n) h = number-utf8 n h
  text-utf8 (string s) h = IsUtf8-quoted s (IsUtf8-are_ascii s h)
  text-utf8 (array ds) h = IsUtf8-append (91 ∷ []) _ (IsUtf8-are_ascii _ refl) (items-utf8 false ds h)
  text-utf8 (object ms) h = IsUtf8-append (123 ∷ []) _ (IsUtf8-are_ascii _ refl) (members-utf8 false ms (and_parts _ _ h).0)

  items-utf8 : (later : Bool) (ds : Items) → items_plain ds ≡ true → IsUtf8 (items_text later ds)
  items-utf8 later no_items h = IsUtf8-are_ascii _ refl
  items-utf8 later (item d ds) h =
      let p = and_parts _ _ h in
      IsUtf8-append (comma_if later) _ (comma-utf8 later) (IsUtf8-append (compact_text d) _ (text-utf8 d p.0) (items-utf8 true ds p.1))

  members-utf8 : (later : Bool) (ms : Members) → members_plain ms ≡ true → IsUtf8 (members_text later ms)
  members-utf8 later no_members h = IsUtf8-are_ascii _ refl
  members-utf8 later (member k d ms) h =
      let q = and_parts _ _ h in
      let p = and_parts _ _ q.1 in
      IsUtf8-append (comma_if later) _ (comma-utf8 later)
      (IsUtf8-append (quoted k) _ (IsUtf8-quoted k (IsUtf8-are_ascii k q.0))
      (IsUtf8-append (58 ∷ []) _ (IsUtf8-are_ascii _ refl) (IsUtf8-append (compact_text d) _ (text-utf8 d p.0) (members-utf8 true ms p.1))))

-- ---- the text is no longer than its weight

either-short : (b : Bool) (x y : List ℕ) (n : ℕ) → length x ≤ n → length y ≤ n → length (cond b x y) ≤ n
either-short true x y n h k = h
either-short false x y n h k = k

escape_byte-short : (x : ℕ) → length (escape_byte x) ≤ 6
unfolding escape_byte
escape_byte-short x =
    either-short (nat_lt 0 (escape_letter x)) _ _ 6 (omega arith) (either-short (nat_lt x 32) _ _ 6 (omega arith) (omega arith))

escape-short : (s : List ℕ) → length (escape s) ≤ 6 * length s
escape-short [] = omega arith
escape-short (x ∷ xs) = omega (arith, length-append (escape_byte x) (escape xs), escape_byte-short x, escape-short xs)

quoted-short : (s : List ℕ) → length (quoted s) ≤ 2 + 6 * length s
quoted-short s = omega (arith, length-append (escape s) (34 ∷ []), escape-short s)

number-short : (n : Num) → is_small n ≡ true → length (number_text n) ≤ 11
number-short (unsigned n) h = let few = ltb-true _ _ h in length-decimal-le 11 n (omega arith) (omega (arith, few)) (omega (arith, few))
number-short (negative (pos n)) h = absurd cc
number-short (negative (negsuc n)) h = let few = ltb-true _ _ h in length_signed_le 10 (negsuc n) (omega (arith, few)) (omega (arith, few))
number-short (float x) h = absurd cc

boolean-short : (b : Bool) → length (compact_text (boolean b)) ≤ 5
boolean-short true = omega arith
boolean-short false = omega arith

comma-short : (later : Bool) → length (comma_if later) ≤ 1
comma-short true = omega arith
comma-short false = omega arith

mutual
  pub text-short : (d : Data) → is_plain d ≡ true → length (compact_text d) ≤ weight d
  text-short null h = omega arith
  text-short (boolean b) h = boolean-short b
  text-short (number n) h = number-short n h
  text-short (string s) h = quoted-short s
  text-short (array ds) h = let rest = items-short false ds h in omega (arith, rest)
  text-short (object ms) h = let rest = members-short false ms (and_parts _ _ h).0 in omega (arith, rest)

  items-short : (later : Bool) (ds : Items) → items_plain ds ≡ true → length (items_text later ds) ≤ 1 + items_weight ds
  items-short later no_items h = omega arith
  items-short later (item d ds) h =
      let p = and_parts (is_plain d) (items_plain ds) h in
      let first = text-short d p.0 in
      let rest = items-short true ds p.1 in
      omega (arith, comma-short later, first, rest, length-append (comma_if later) (compact_text d ++ items_text true ds), length-append (compact_text d) (items_text true ds))

  members-short : (later : Bool) (ms : Members) → members_plain ms ≡ true → length (members_text later ms) ≤ 1 + members_weight ms
  members-short later no_members h = omega arith
  members-short later (member k d ms) h =
      let p = and_parts (is_plain d) (members_plain ms) (and_parts (are_ascii k) (is_plain d && members_plain ms) h).1 in
      let first = text-short d p.0 in
      let rest = members-short true ms p.1 in
      omega (
        arith,
        comma-short later,
        quoted-short k,
        first,
        rest,
        length-append (comma_if later) (quoted k ++ 58 ∷ (compact_text d ++ members_text true ms)),
        length-append (quoted k) (58 ∷ (compact_text d ++ members_text true ms)),
        length-append (compact_text d) (members_text true ms),
      )
