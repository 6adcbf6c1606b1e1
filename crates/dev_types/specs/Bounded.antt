-- Which bytes a name and a text may have.
use Rattle.std.specs.Prelude.{ℕ, List, Bool, ◌&&◌, nat_le, length}
use Rattle.std.specs.List.{list_all}
use Rattle.std.specs.Str.{is_utf8}

-- a byte of printing ASCII other than the space
abbrev pub is_name_byte : ℕ → Bool
is_name_byte b = nat_le 0x21 b && nat_le b 0x7E

-- 1 to 64 such bytes
abbrev pub is_name : List ℕ → Bool
is_name bytes = nat_le 1 (length bytes) && nat_le (length bytes) 64 && list_all is_name_byte bytes

-- 0 to 256 bytes of UTF-8
abbrev pub is_text : List ℕ → Bool
is_text bytes = nat_le (length bytes) 256 && is_utf8 bytes
