-- Names and texts are UTF-8.
use Rattle.std.proofs.Common.{ℕ, zero, suc, List, [], ◌∷◌, ◌≡◌, ◌≤◌, ◌<◌, length, IsTrue, Bool, true, false, refl, ◌&&◌, nat_le, arith, IsUtf8}
use Rattle.std.specs.List.{list_all}
use Rattle.std.specs.Str.{is_utf8, IsAscii}
use Rattle.std.proofs.lemmas.Bool.{leb-true}
use Rattle.std.proofs.lemmas.Str.{IsUtf8-from_is_utf8, is_utf8-from_IsUtf8, IsUtf8-from_ascii}
use Rattle.std.proofs.lemmas.Str.Ascii.{IsAscii-nil}
use Rattle.std.proofs.lemmas.Grind.{common_steps}
use Rattle.dev_types.specs.Bounded.{is_name, is_name_byte, is_text}

-- both halves of a conjunction that holds
pub both : (a b : Bool) → (a && b) ≡ true → (a ≡ true) × (b ≡ true)
both a b h = grind (arith, common_steps)

-- a text's bytes are UTF-8
pub text_is_utf8 : (bs : List ℕ) → IsTrue (is_text bs) → IsUtf8 bs
text_is_utf8 bs h = IsUtf8-from_is_utf8 bs (both _ _ h).1

-- no more than 256 bytes of UTF-8 are a text
pub is_text_from : (bs : List ℕ) → length bs ≤ 256 → IsUtf8 bs → is_text bs ≡ true
is_text_from bs fits utf8 = let text : is_utf8 bs ≡ true = is_utf8-from_IsUtf8 bs utf8 in grind (arith, common_steps)

-- a byte of a name is ASCII
small : (b : ℕ) → is_name_byte b ≡ true → b < 128
small b h = let above : b ≤ 0x7E = leb-true b 0x7E (both (nat_le 0x21 b) (nat_le b 0x7E) h).1 in omega arith

-- the bytes of a name are ASCII
pub name_is_ascii : (bs : List ℕ) → list_all is_name_byte bs ≡ true → IsAscii bs
name_is_ascii [] h = IsAscii-nil
name_is_ascii (b ∷ bs) h = first_then_rest b bs (small b (both _ _ h).0) (name_is_ascii bs (both _ _ h).1)
  where
    first_then_rest : (b : ℕ) (bs : List ℕ) → b < 128 → IsAscii bs → IsAscii (b ∷ bs)
    first_then_rest b bs low rest zero = low
    first_then_rest b bs low rest (suc i) = rest i

-- a name's bytes are UTF-8
pub name_is_utf8 : (bs : List ℕ) → IsTrue (is_name bs) → IsUtf8 bs
name_is_utf8 bs h = IsUtf8-from_ascii bs (name_is_ascii bs (both _ _ h).1)

-- a name has at most 64 bytes
pub name_fits : (bs : List ℕ) → is_name bs ≡ true → length bs ≤ 64
name_fits bs h = leb-true (length bs) 64 (both _ _ (both _ _ h).0).1

-- bytes that are not UTF-8 are no text
pub not_text : (bs : List ℕ) → ¬ IsUtf8 bs → is_text bs ≡ false
not_text bs broken = decide (is_text bs) refl
  where
    decide : (b : Bool) → is_text bs ≡ b → is_text bs ≡ false
    decide false is = is
    decide true is = absurd (broken (text_is_utf8 bs is))
