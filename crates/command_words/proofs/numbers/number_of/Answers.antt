use Rattle.std.proofs.Common.{◌≡◌, ◌∙◌, ◌⊎◌, inl, inr, ◌<◌, ◌≤◌, ◌^◌, ◌-◌, ℕ, Bool, true, false, true≢false, cond, List, [], ◌∷◌, length, drop, Some, None, Ok, Err, Result, refl, ap, sym, subst, arith, nat_le, ◌&&◌, zero, suc}
use Rattle.std.specs.Prelude.{◌==◌}
use Rattle.std.specs.Result.{OkIff, result_ok}
use Rattle.std.specs.List.{list_all}
use Rattle.std.specs.Char.{digit_value}
use Rattle.std.specs.Str.Parse.{AllDigits, IsNumeral, digits_value, without_leading_plus}
use Rattle.std.proofs.lemmas.Bool.{cases_Bool, eqb-true, le-ltb, lt-ltb, leb-true, le-leb}
use Rattle.std.proofs.lemmas.Int.Digits.{digits_value-lt}
use Rattle.clap.specs.Lexer.{is_digit}
use Rattle.std.proofs.Math.Nat.{pow-le-pow_right}
use Rattle.command_words.specs.Numbers.{is_number}
use Rattle.command_words.proofs.numbers.number_of.Goals as goal

parsed_ok : {E : Type 0} {P : Type 0} (r : Result ℕ E) (v : ℕ) → OkIff r P v → P → result_ok r ≡ Some v
parsed_ok (Ok n) v h p = ap Some h.1
parsed_ok (Err e) v h p = absurd (h p)

and_parts : (a b : Bool) → (a && b) ≡ true → (a ≡ true) × (b ≡ true)
and_parts true b e = (refl, e)
and_parts false b e = absurd (true≢false (sym e))

digit_below : (x : ℕ) → is_digit x ≡ true → digit_value x < 10
digit_below x e =
    let parts = and_parts (nat_le 48 x) (nat_le x 57) e in
    let low = leb-true 48 x parts.0 in
    let high = leb-true x 57 parts.1 in
    let is : digit_value x ≡ x - 48 = rw (le-ltb x 48 low, lt-ltb x 58 (omega (arith, high))) refl in
    omega (arith, is, high)

digits_are : (ds : List ℕ) → list_all is_digit ds ≡ true → AllDigits 10 ds
digits_are [] e = tt
digits_are (x ∷ xs) e =
    let parts = and_parts (is_digit x) (list_all is_digit xs) e in
    (digit_below x parts.0, digits_are xs parts.1)

no_plus : (ds : List ℕ) → list_all is_digit ds ≡ true → without_leading_plus ds ≡ ds
no_plus [] e = refl
no_plus (x ∷ xs) e = go (cases_Bool (x == 43))
  where
    go : ((x == 43) ≡ true) ⊎ ((x == 43) ≡ false) → without_leading_plus (x ∷ xs) ≡ x ∷ xs
    go (inl y) = absurd (true≢false (sym e ∙ ap (λ k. is_digit k && list_all is_digit xs) (eqb-true x 43 y)))
    go (inr y) = ap (λ b. drop (cond b 1 0) (x ∷ xs)) y

few : (n : ℕ) → n ≤ 10 → 10 ^ n < 2 ^ 64
few n h =
    let most = pow-le-pow_right {n = 10} (omega arith) h in
    omega (arith, most)

positive : (n : ℕ) → (n == 0) ≡ false → 0 < n
positive zero e = absurd (true≢false e)
positive (suc n) e = omega arith

pub returns : goal.returns
returns c =
    let t = c.args.text.now in
    let bytes_are = c.as_bytes-bytes.ensures.value in
    let digits : list_all is_digit t ≡ true = sym (ap (list_all is_digit) bytes_are) ∙ sym c.are_digits.ensures ∙ c.if-not-are_digits.false in
    let some : 0 < length t = positive (length t) (sym (ap (λ k. k == 0) c.as_bytes-bytes.ensures.len) ∙ sym c.is_empty.ensures ∙ c.if-is_empty.false) in
    let short : length t ≤ 10 = omega (arith, c.if-bytes-gt10.false, c.as_bytes-bytes.ensures.len) in
    let all = digits_are t digits in
    let below : digits_value 10 t < 2 ^ 64 = omega (arith, digits_value-lt 10 t all, few (length t) short) in
    let plain = no_plus t digits in
    let good : IsNumeral 10 (without_leading_plus t) × (digits_value 10 (without_leading_plus t) < 2 ^ 64) =
    subst (λ (ds : List ℕ). IsNumeral 10 ds × (digits_value 10 ds < 2 ^ 64)) (sym plain) ((some, all), below) in
    let number : is_number t ≡ true = rw (le-leb 1 (length t) (omega (arith, some)), le-leb (length t) 10 short, digits) refl in
    c.ok.ensures.value ∙ parsed_ok c.parse.result _ c.parse.ensures.value.0 good ∙ ap (λ ds. Some (digits_value 10 ds)) plain
    ∙ sym (ap (λ b. cond b (Some (digits_value 10 t)) None) number)
