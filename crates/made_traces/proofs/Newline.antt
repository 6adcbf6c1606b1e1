-- A newline behind a text changes none of its tokens.
use Rattle.std.proofs.Common.{◌≡◌, ℕ, ◌+◌, ◌-◌, ◌≤◌, ◌==◌, ◌&&◌, ◌||◌, Bool, true, false, cond, List, [], ◌∷◌, ◌++◌, Option, Some, None, length, take, drop, refl, ap, ◌∙◌, arith, length-append}
use Rattle.std.specs.Prelude.{nat_eq, nat_lt, option_map, option_and_then}
use Rattle.std.specs.List.{prefix_len, starts_with}
use Rattle.std.specs.Char.{is_ascii_digit, is_digit, encode_utf8}
use Rattle.std.proofs.Math.Bool.{and-false}
use Rattle.std.proofs.lemmas.Bool.{eqb-true}
use Rattle.std.proofs.lemmas.List.{take-append-le, drop-append-le}
use Rattle.std.proofs.lemmas.List.Folds.{prefix_len-append}
use Rattle.std.proofs.lemmas.List.Sums.{prefix_len-le-length}
use Rattle.json.specs.Token.{Token, boolean, null, number, bad}
use Rattle.json.specs.Word.{ends_word, after_digits, after_minus, after_sign, after_whole, after_fraction, after_exponent, after_number, number_before, literal, word}
use Rattle.json.specs.Text.{Within, plain, after_backslash, after_u, after_high, content, code_unit, short_escape, prepend, is_high_surrogate, is_low_surrogate, surrogate_pair}
use Rattle.json.specs.Lex.{Lexeme, token, Mode, between, in_word, in_string, in_escape, Class, quote, backslash, operator, space, other, class, operator_lexeme, string_token, lex_byte, lex, fresh, punctuate, tokens}
use Rattle.json.specs.Ascii as ascii

abbrev newline : List ℕ
newline = 10 ∷ []

abbrev with_newline : Option (List ℕ) → Option (List ℕ)
with_newline o = option_map (λ r. r ++ newline) o

-- ---- numbers

choice : (b : Bool) (x y : List ℕ) → cond b (x ++ newline) (y ++ newline) ≡ cond b x y ++ newline
choice true x y = refl
choice false x y = refl

some_choice : (b : Bool) (x y : Option (List ℕ)) → cond b (with_newline x) (with_newline y) ≡ with_newline (cond b x y)
some_choice true x y = refl
some_choice false x y = refl

end_or_not : (b : Bool) (n m : ℕ) → (b ≡ true → n ≡ m) → cond b (m + 0) n ≡ n
end_or_not true n m h = omega (arith, h refl)
end_or_not false n m h = refl

digits_alone : (t : List ℕ) → prefix_len is_ascii_digit (t ++ newline) ≡ prefix_len is_ascii_digit t
digits_alone t = prefix_len-append is_ascii_digit t newline ∙ end_or_not _ (prefix_len is_ascii_digit t) (length t) (λ e. eqb-true _ _ e)

digits-newline : (t : List ℕ) → after_digits (t ++ newline) ≡ with_newline (after_digits t)
digits-newline t =
    (λ i. cond (digits_alone t i == 0) None (Some (drop (digits_alone t i) (t ++ newline))))
    ∙ ap (λ r. cond (prefix_len is_ascii_digit t == 0) None (Some r)) (drop-append-le (prefix_len is_ascii_digit t) t newline (prefix_len-le-length is_ascii_digit t))
    ∙ some_choice (prefix_len is_ascii_digit t == 0) None (Some (drop (prefix_len is_ascii_digit t) t))

minus-newline : (t : List ℕ) → after_minus (t ++ newline) ≡ after_minus t ++ newline
minus-newline [] = refl
minus-newline (x ∷ xs) = choice (x == 45) xs (x ∷ xs)

sign-newline : (t : List ℕ) → after_sign (t ++ newline) ≡ after_sign t ++ newline
sign-newline [] = refl
sign-newline (x ∷ xs) = choice ((x == 45) || (x == 43)) xs (x ∷ xs)

whole-newline : (t : List ℕ) → after_whole (t ++ newline) ≡ with_newline (after_whole t)
whole-newline [] = refl
whole-newline (x ∷ xs) = ap (cond (x == 48) (Some (xs ++ newline))) (digits-newline (x ∷ xs)) ∙ some_choice (x == 48) (Some xs) (after_digits (x ∷ xs))

fraction-newline : (t : List ℕ) → after_fraction (t ++ newline) ≡ with_newline (after_fraction t)
fraction-newline [] = refl
fraction-newline (x ∷ xs) = ap (λ o. cond (x == 46) o (Some (x ∷ xs ++ newline))) (digits-newline xs) ∙ some_choice (x == 46) (after_digits xs) (Some (x ∷ xs))

exponent-newline : (t : List ℕ) → after_exponent (t ++ newline) ≡ with_newline (after_exponent t)
exponent-newline [] = refl
exponent-newline (x ∷ xs) =
    ap (λ o. cond ((x == 101) || (x == 69)) o (Some (x ∷ xs ++ newline))) (ap after_digits (sign-newline xs) ∙ digits-newline (after_sign xs))
    ∙ some_choice ((x == 101) || (x == 69)) (after_digits (after_sign xs)) (Some (x ∷ xs))

and_then-newline : (f : List ℕ → Option (List ℕ)) → ((t : List ℕ) → f (t ++ newline) ≡ with_newline (f t)) → (o : Option (List ℕ)) → option_and_then f (with_newline o) ≡ with_newline (option_and_then f o)
and_then-newline f same None = refl
and_then-newline f same (Some t) = same t

number-newline : (t : List ℕ) → after_number (t ++ newline) ≡ with_newline (after_number t)
unfolding after_number
number-newline t =
    ap (λ o. option_and_then after_exponent (option_and_then after_fraction o)) (ap after_whole (minus-newline t) ∙ whole-newline (after_minus t))
    ∙ ap (option_and_then after_exponent) (and_then-newline after_fraction fraction-newline (after_whole (after_minus t)))
    ∙ and_then-newline after_exponent exponent-newline (option_and_then after_fraction (after_whole (after_minus t)))

ends-newline : (t : List ℕ) → ends_word (t ++ newline) ≡ ends_word t
ends-newline [] = refl
ends-newline (x ∷ xs) = refl

lengths : (t rest : List ℕ) → length (t ++ newline) - length (rest ++ newline) ≡ length t - length rest
lengths t rest = let a = length-append t newline in let b = length-append rest newline in omega (arith, a, b)

before-newline : (t : List ℕ) (o : Option (List ℕ)) → number_before (t ++ newline) (with_newline o) ≡ number_before t o
before-newline t None = refl
before-newline t (Some rest) =
    let few : length t - length rest ≤ length t = omega arith in
    (λ i. cond (ends-newline rest i) (number (take (lengths t rest i) (t ++ newline))) bad)
    ∙ ap (λ s. cond (ends_word rest) (number s) bad) (take-append-le (length t - length rest) t newline few)

-- ---- the literals

abbrev reads : List ℕ → List ℕ → Bool
reads name t = starts_with nat_eq t name && ends_word (drop (length name) t)

and_first : (a b c d e : Bool) → (b && c) ≡ (d && e) → (a && b && c) ≡ (a && d && e)
and_first true b c d e h = h
and_first false b c d e h = refl

abbrev NoNewline : List ℕ → Type 0
NoNewline [] = Unit {0}
NoNewline (n ∷ ns) = (nat_eq n 10 ≡ false) × NoNewline ns

reads-newline : (name t : List ℕ) → NoNewline name → reads name (t ++ newline) ≡ reads name t
reads-newline [] [] no_line = refl
reads-newline [] (x ∷ xs) no_line = refl
reads-newline (n ∷ ns) [] no_line = ap (λ b. b && starts_with nat_eq [] ns && ends_word (drop (length ns) [])) no_line.0
reads-newline (n ∷ ns) (x ∷ xs) no_line = and_first (nat_eq n x) _ _ _ _ (reads-newline ns xs no_line.1)

literal-newline : (name : List ℕ) (k : Token) (t : List ℕ) → NoNewline name → literal name k (t ++ newline) ≡ literal name k t
literal-newline name k t no_line = ap (λ b. cond b k bad) (reads-newline name t no_line)

word-newline : (x : ℕ) (xs : List ℕ) → word (x ∷ xs ++ newline) ≡ word (x ∷ xs)
unfolding word
word-newline x xs =
    let t = x ∷ xs in
    let a = literal-newline ascii.true_text (boolean true) t (refl, (refl, (refl, (refl, tt)))) in
    let b = literal-newline ascii.false_text (boolean false) t (refl, (refl, (refl, (refl, (refl, tt))))) in
    let c = literal-newline ascii.null_text null t (refl, (refl, (refl, (refl, tt)))) in
    let n = ap (number_before (t ++ newline)) (number-newline t) ∙ before-newline t (after_number t) in
    λ i. cond (x == 116) (a i) (cond (x == 102) (b i) (cond (x == 110) (c i) (n i)))

-- ---- strings

no_digit : (a b c : Bool) (u : ℕ) → cond (a && b && c && false) (Some u) None ≡ None
no_digit a b c u = ap (λ t. cond t (Some u) None) (and-false (a && b && c))

none_then : {A : Type 0} (f : ℕ → Option A) (o : Option ℕ) → o ≡ None → option_and_then f o ≡ None
none_then f o none = ap (option_and_then f) none

either_none : {A : Type 0} (b : Bool) (o : Option A) → o ≡ None → cond b o None ≡ None
either_none true o none = none
either_none false o none = refl

content-newline : (w : Within) (xs : List ℕ) → content w (xs ++ newline) ≡ content w xs
unfolding content code_unit short_escape
content-newline plain [] = refl
content-newline plain (x ∷ xs) =
    λ i. cond (x == 34) (Some []) (cond (x == 92) (content-newline after_backslash xs i) (cond (nat_lt x 32) None (prepend (x ∷ []) (content-newline plain xs i))))
content-newline after_backslash [] = refl
content-newline after_backslash (x ∷ xs) =
    λ i. cond (x == 117) (content-newline after_u xs i) (option_and_then (λ c. prepend (c ∷ []) (content-newline plain xs i)) (short_escape x))
content-newline after_u [] = refl
content-newline after_u (a ∷ []) = refl
content-newline after_u (a ∷ b ∷ []) = refl
content-newline after_u (a ∷ b ∷ c ∷ []) = none_then _ _ (no_digit (is_digit a 16) (is_digit b 16) (is_digit c 16) _)
content-newline after_u (a ∷ b ∷ c ∷ d ∷ xs) =
    λ i. option_and_then (λ u. cond (is_high_surrogate u) (content-newline (after_high u) xs i) (cond (is_low_surrogate u) None (prepend (encode_utf8 u) (content-newline plain xs i)))) (code_unit a b c d)
content-newline (after_high h) [] = refl
content-newline (after_high h) (s ∷ []) = refl
content-newline (after_high h) (s ∷ u ∷ []) = refl
content-newline (after_high h) (s ∷ u ∷ a ∷ []) = refl
content-newline (after_high h) (s ∷ u ∷ a ∷ b ∷ []) = refl
content-newline (after_high h) (s ∷ u ∷ a ∷ b ∷ c ∷ []) = either_none _ _ (none_then _ _ (no_digit (is_digit a 16) (is_digit b 16) (is_digit c 16) _))
content-newline (after_high h) (s ∷ u ∷ a ∷ b ∷ c ∷ d ∷ xs) =
    λ i. cond ((s == 92) && (u == 117)) (option_and_then (λ l. cond (is_low_surrogate l) (prepend (encode_utf8 (surrogate_pair h l)) (content-newline plain xs i)) None) (code_unit a b c d)) None

-- ---- the lexer

byte-newline : (m : Mode) (c : Class) (x : ℕ) (xs : List ℕ) (k k1 : Mode → List Lexeme) → ((n : Mode) → k1 n ≡ k n) → lex_byte m c x (xs ++ newline) k1 ≡ lex_byte m c x xs k
byte-newline between quote x xs k k1 same = λ i. token (string_token (content-newline plain xs i)) ∷ same in_string i
byte-newline between backslash x xs k k1 same = λ i. token bad ∷ same in_word i
byte-newline between operator x xs k k1 same = λ i. operator_lexeme x ∷ same between i
byte-newline between space x xs k k1 same = same between
byte-newline between other x xs k k1 same = λ i. token (word-newline x xs i) ∷ same in_word i
byte-newline in_word quote x xs k k1 same = same in_word
byte-newline in_word backslash x xs k k1 same = same in_word
byte-newline in_word operator x xs k k1 same = λ i. operator_lexeme x ∷ same between i
byte-newline in_word space x xs k k1 same = same between
byte-newline in_word other x xs k k1 same = same in_word
byte-newline in_string quote x xs k k1 same = same between
byte-newline in_string backslash x xs k k1 same = same in_escape
byte-newline in_string operator x xs k k1 same = same in_string
byte-newline in_string space x xs k k1 same = same in_string
byte-newline in_string other x xs k k1 same = same in_string
byte-newline in_escape c x xs k k1 same = same in_string

lex-newline : (m : Mode) (xs : List ℕ) → lex m (xs ++ newline) ≡ lex m xs
unfolding lex
lex-newline between [] = refl
lex-newline in_word [] = refl
lex-newline in_string [] = refl
lex-newline in_escape [] = refl
lex-newline m (x ∷ xs) = byte-newline m (class x) x xs (λ n. lex n xs) (λ n. lex n (xs ++ newline)) (λ n. lex-newline n xs)

pub tokens-newline : (text : List ℕ) → tokens (text ++ 10 ∷ []) ≡ tokens text
tokens-newline text = ap (punctuate fresh) (lex-newline between text)
