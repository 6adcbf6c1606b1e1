-- What a run of writes gave to a sink, and a run of reads took from a source.
use Rattle.std.proofs.Common.{◌≡◌, ℕ, ◌+◌, ◌-◌, ◌<◌, ◌≤◌, List, ◌++◌, Option, None, Some, Ok, ap, length, take, drop, sym, subst, arith, length-append, length-drop}
use Rattle.std.proofs.Math.Seq.{take-add}
use Rattle.std.proofs.lemmas.List.{take_all, length-take}
use Rattle.std.proofs.KnownBytes.{Appends-trans, Consumes-trans}
use Rattle.std.specs.Io.KnownBytes.{Appends, Consumes, IsAtEnd}
use Rattle.replay_io.specs.Streams.{ConsumesUpTo, EndsExactly}

-- a sink was given the first of these bytes
pub record Written (before now : Option (List ℕ)) (bytes : List ℕ) (done faults_before faults_now : ℕ) : Type 0 where
  pub grown : Appends before now (take done bytes)
  pub within : done ≤ length bytes
  pub later : faults_before ≤ faults_now

-- one more write, of what is left of the bytes
pub Appends-more : (a b c : Option (List ℕ)) (bytes : List ℕ) (done n : ℕ) → Appends a b (take done bytes)
    → Appends b c (take n (take (length bytes - done) (drop done bytes))) → Appends a c (take (done + n) bytes)
Appends-more a b c bytes done n first second =
    let P : List ℕ → Type 0 = Appends a c in
    let Q : List ℕ → Type 0 = λ rest. Appends b c (take n rest) in
    let all : take (length bytes - done) (drop done bytes) ≡ drop done bytes = take_all (length bytes - done) (drop done bytes) (grind (arith, length-drop)) in
    subst P (sym (take-add done n bytes)) (Appends-trans a b c _ _ first (subst Q all second))

-- a source gave these bytes
pub record Taken (before now : Option (List ℕ)) (bytes : List ℕ) (most faults_before faults_now : ℕ) : Type 0 where
  pub consumed : Consumes before now bytes
  pub within : length bytes ≤ most
  pub later : faults_before ≤ faults_now

-- a read that failed, after reads that gave these bytes
pub ConsumesUpTo-more : (a b c : Option (List ℕ)) (bytes : List ℕ) (room most : ℕ) → Consumes a b bytes → length bytes + room ≤ most
    → ConsumesUpTo room b c → ConsumesUpTo most a c
ConsumesUpTo-more a b c bytes room most first within (piece, short, second) =
    (bytes ++ piece, grind (arith, length-append), Consumes-trans a b c bytes piece first second)

-- a read that consumed what it gave, and nothing only at the end, tells the end exactly
pub EndsExactly-from_read : (E : Type 0) (a b : Option (List ℕ)) (n : ℕ) (buf : List ℕ) (room : ℕ) → n ≤ length buf → length buf ≡ room
    → Consumes a b (take n buf) → (n ≡ 0 → 0 < length buf → IsAtEnd b) → EndsExactly {E = E} a (Ok n) room
EndsExactly-from_read E None b n buf room within kept consumed end = tt
EndsExactly-from_read E (Some xs) None n buf room within kept consumed end = absurd consumed
EndsExactly-from_read E (Some xs) (Some ys) n buf room within kept consumed end = λ has_room. (
  λ zero. grind (arith, consumed, zero, end zero (omega (arith, kept, has_room))),
  λ none. grind (arith, ap length consumed, none, within, length-append, length-take),
)
