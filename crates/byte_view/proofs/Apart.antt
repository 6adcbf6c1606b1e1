-- A write to each part of a block is two writes to the block.
use Rattle.std.proofs.Common.{ℕ, ◌+◌, ◌-◌, ◌*◌, ◌<◌, ◌≤◌, ◌≡◌, ◌∙◌, ap, sym, List, ◌++◌, length, take, drop, arith, length-append, length-take, length-drop}
use Rattle.std.proofs.Math.Seq.{take-append-add, drop-append-add}
use Rattle.std.proofs.Math.Nat.{add-mul, mul-le-mul_right}
use Rattle.std.proofs.lemmas.List.{take-append-le, drop-append-le, take-append-drop, append_assoc}
use Rattle.byte_view.specs.Elements.{Elements, Fit, start_of}
use Rattle.byte_view.proofs.ElementFacts.{start_below, ends_within}
use Rattle.dev_types.specs.Blocks.{with_part}
use Rattle.dev_types.specs.DataTypes.{byte_size}
use Rattle.dev_types.specs.declared.data_types.DataType.{DataType}

-- over plain numbers: the first write ends before c, and the second begins m bytes from the front, behind c
parts_joined : (bs one two : List ℕ) (a s c m : ℕ) → a + s ≤ c → c ≤ length bs → length one ≡ s → c ≤ m →
    (take a (take c bs) ++ (one ++ drop (a + s) (take c bs))) ++ (take (m - c) (drop c bs) ++ (two ++ drop (m - c + s) (drop c bs))) ≡
    take m (take a bs ++ (one ++ drop (a + s) bs)) ++ (two ++ drop (m + s) (take a bs ++ (one ++ drop (a + s) bs)))
parts_joined bs one two a s c m before within sized behind =
    let front : List ℕ = take a (take c bs) ++ (one ++ drop (a + s) (take c bs)) in
    let back : List ℕ = drop c bs in
    let cut : length (take c bs) ≡ c = omega (arith, length-take c bs) in
    let long : length front ≡ c = omega (arith, length-append (take a (take c bs)) (one ++ drop (a + s) (take c bs)), length-append one (drop (a + s) (take c bs)), length-take a (take c bs), length-drop (a + s) (take c bs)) in
    let head : take a bs ≡ take a (take c bs) = ap (take a) (sym (take-append-drop c bs)) ∙ take-append-le a (take c bs) back (omega arith) in
    let tail : drop (a + s) bs ≡ drop (a + s) (take c bs) ++ back = ap (drop (a + s)) (sym (take-append-drop c bs)) ∙ drop-append-le (a + s) (take c bs) back (omega arith) in
    let whole : take a bs ++ (one ++ drop (a + s) bs) ≡ front ++ back =
    (λ k. head k ++ (one ++ tail k)) ∙ ap (λ (l : List ℕ). take a (take c bs) ++ l) (sym (append_assoc one (drop (a + s) (take c bs)) back)) ∙ sym (append_assoc (take a (take c bs)) (one ++ drop (a + s) (take c bs)) back) in
    let at : m ≡ length front + (m - c) = omega arith in
    let after : m + s ≡ length front + (m - c + s) = omega arith in
    let taken : take m (take a bs ++ (one ++ drop (a + s) bs)) ≡ front ++ take (m - c) back =
    (λ k. take (at k) (whole k)) ∙ take-append-add front back (m - c) in
    let left : drop (m + s) (take a bs ++ (one ++ drop (a + s) bs)) ≡ drop (m - c + s) back =
    (λ k. drop (after k) (whole k)) ∙ drop-append-add front back (m - c + s) in
    sym ((λ k. taken k ++ (two ++ left k)) ∙ append_assoc front (take (m - c) back) (two ++ drop (m - c + s) back))

-- elements j and k, where j lies before element i and k does not
pub written_apart : (t : DataType) (stride : ℕ) (bs one two : List ℕ) (i j k : ℕ) → byte_size t ≤ stride → j < i → i ≤ k → i * stride ≤ length bs → length one ≡ byte_size t →
    with_part t stride (take (i * stride) bs) j one ++ with_part t stride (drop (i * stride) bs) (k - i) two ≡ with_part t stride (with_part t stride bs j one) k two
written_apart t stride bs one two i j k apart before behind within sized =
    let next : (j + 1) * stride ≤ i * stride = mul-le-mul_right stride (omega arith) in
    let more : (j + 1) * stride ≡ j * stride + stride = omega arith in
    let later : i * stride ≤ k * stride = mul-le-mul_right stride behind in
    let split : k ≡ i + (k - i) = omega arith in
    let sum : k * stride ≡ i * stride + (k - i) * stride = ap (λ (n : ℕ). n * stride) split ∙ add-mul i (k - i) stride in
    let from : (k - i) * stride ≡ k * stride - i * stride = omega arith in
    rw from (parts_joined bs one two (j * stride) (byte_size t) (i * stride) (k * stride) (omega arith) within sized later)

-- what the two halves were left at, joined
pub halves_written : (e one two : Elements) (i j k : ℕ) (v w xs ys : List ℕ) → Fit e → j < i → i ≤ k → k < e.count →
    one ≡ record e { count = i; bytes = take (start_of e i) e.bytes } → two ≡ record e { count = e.count - i; bytes = drop (start_of e i) e.bytes } →
    xs ≡ with_part one.ty one.stride one.bytes j v → length xs ≡ length one.bytes → ys ≡ with_part two.ty two.stride two.bytes (k - i) w →
    xs ++ ys ≡ with_part e.ty e.stride (with_part e.ty e.stride e.bytes j v) k w
halves_written e one two i j k v w xs ys fits before behind within one_is two_is xs_is kept ys_is =
    let c : ℕ = i * e.stride in
    let at : start_of e i ≡ c = start_below e i (omega arith) in
    let long : c + byte_size e.ty ≤ length e.bytes = ends_within e i fits (omega arith) in
    let front : xs ≡ with_part e.ty e.stride (take c e.bytes) j v =
    xs_is ∙ ap (λ (o : Elements). with_part o.ty o.stride o.bytes j v) one_is ∙ ap (λ (n : ℕ). with_part e.ty e.stride (take n e.bytes) j v) at in
    let back : ys ≡ with_part e.ty e.stride (drop c e.bytes) (k - i) w =
    ys_is ∙ ap (λ (o : Elements). with_part o.ty o.stride o.bytes (k - i) w) two_is ∙ ap (λ (n : ℕ). with_part e.ty e.stride (drop n e.bytes) (k - i) w) at in
    let same : length xs ≡ length (take c e.bytes) = kept ∙ ap (λ (o : Elements). length o.bytes) one_is ∙ ap (λ (n : ℕ). length (take n e.bytes)) at in
    let counted : length xs ≡ length (take (j * e.stride) (take c e.bytes) ++ (v ++ drop (j * e.stride + byte_size e.ty) (take c e.bytes))) = ap length front in
    let next : (j + 1) * e.stride ≤ c = mul-le-mul_right e.stride (omega arith) in
    let more : (j + 1) * e.stride ≡ j * e.stride + e.stride = omega arith in
    let apart : byte_size e.ty ≤ e.stride = fits.1 in
    let sized : length v ≡ byte_size e.ty = omega (
      arith,
      length-take c e.bytes,
      length-append (take (j * e.stride) (take c e.bytes)) (v ++ drop (j * e.stride + byte_size e.ty) (take c e.bytes)),
      length-append v (drop (j * e.stride + byte_size e.ty) (take c e.bytes)),
      length-take (j * e.stride) (take c e.bytes),
      length-drop (j * e.stride + byte_size e.ty) (take c e.bytes),
    ) in
    (λ n. front n ++ back n) ∙ written_apart e.ty e.stride e.bytes v w i j k apart before behind (omega arith) sized
