-- A loan of elements as it lies in the machine: the reference is taken out of it, and it is made of one. Assumes `Logic`.
use Rattle.std.proofs.Common.{ℕ, ◌<◌, ◌^◌, List, [], ◌∷◌, ◌++◌, refl, sym, subst, w64}
use seplogic.Ra.Ura.{Ura}
use lib.Dec.{T}
use mir.Syntax.{erased, tcons, tnil}
use mir.Val.{Val, vstruct, vcons, vnil, has_tys, WT}
use base.Fml.{GName, fres}
use base.Logic.{ent, sep, via, wand, all_e, apply∗}
use base.Stored.{coded_list}
use types.Logic.{Logic, sem}
use types.Kit.{‵, raw, ◌⊛◌, by, use1, use2, split, join, ◌$◌, ◌∵◌, !, qed, move, keep, drop, rewrite, fsplit, fjoin, fpick, fpack, feq_i, done}
use denote.Builtin.{u8, u64}
use denote.Laws.{Typed, Is, shows}
use denote.Plain.{uint_vals, uint_Makes}
use denote.RattleType.{RattleType, Valss}
use denote.Ref.{NamedLft}
use denote.Slice.{MutSlice, mut_slice_vals, finally, res-finally}
use denote.Follow.{both_by, follows_both}
use denote.FollowSlice.{finally-res, heres_id}
use denote.Array.{Array}
use denote.Exit.{no, left}
use denote.Param.Mute.{had}
use denote.Signature.{plain, named_lft}
use denote.Triple.Walked.{Goes, stay_dropped}
use denote.Steps.{nothing, owned, peeks}
use denote.Struct.Struct.{within, as_fields, layout}
use denote.Struct.Declared.{shape, fields}
use denote.Struct.Tuple.{Tuple, tuple_type}
use denote.Struct.Laws.{lawful}
use denote.Enum.Laws.{makes, lawful as enum_lawful}
use Rattle.dev_types.specs.declared.data_types.DataType.{DataType}
use Rattle.dev_types.specs.contracts.data_types.DataType as D
use Rattle.dev_types.proofs.data_types.DataType.TheLaws as D'
use Rattle.byte_view.specs.declared.writes.StridedMut.{StridedMut}
use Rattle.byte_view.specs.contracts.writes.StridedMut as S
use Rattle.byte_view.proofs.writes.StridedMut.TheLaws as S'

-- the machine value of an element type is of its type
pub type_typed : {M : Type 1} {𝓤 : Ura M} (𝓛 : Logic 𝓤) (ty : DataType) → Is D.the_row ty (D'.lowered ty ∷ []) → Typed D.the_row.mir (D'.lowered ty ∷ [])
type_typed 𝓛 ty is = (enum_lawful D.the_type D'.the_laws 𝓛 tt).typed ty (D'.lowered ty ∷ []) is

-- a pair of two machine values
abbrev pub pair_val : Val → Val → Val
pair_val u v = vstruct (vcons u (vcons v vnil))

module _ (a : NamedLft) where
  -- the reference that a loan holds
  abbrev pub Bytes : RattleType
  Bytes = MutSlice a.mir a.lft u8

  -- what is known of a loan's fields
  pub parts_of : (s : StridedMut) (vs : List Val) → Is (S.the_row a) s vs
      → Is Bytes s.bytes (mut_slice_vals s.bytes) × Is D.the_row s.ty (D'.lowered s.ty ∷ []) × (s.stride < 2 ^ 64) × (s.count < 2 ^ 64)
  parts_of s vs is =
      let p = is.1.1 in
      (subst (Is Bytes s.bytes) p.0.0.0 p.0, subst (Is D.the_row s.ty) (D'.lowers.val_is s.ty _ p.1.0) p.1.0, p.1.1.0.1, p.1.1.1.0.1)

  -- a loan of such fields
  pub loan_of : (s : StridedMut) → Is Bytes s.bytes (mut_slice_vals s.bytes) → Is D.the_row s.ty (D'.lowered s.ty ∷ []) → s.stride < 2 ^ 64 → s.count < 2 ^ 64
      → Is (S.the_row a) s (S'.lowered s ∷ [])
  loan_of s bytes ty stride count = ((mut_slice_vals s.bytes, (D'.lowered s.ty ∷ [], (uint_vals w64 s.stride, (uint_vals w64 s.count, tt)))), (refl, (bytes, (ty, ((refl, stride), ((refl, count), tt))))))

  module _ {M : Type 1} {𝓤 : Ura M} (𝓛 : Logic 𝓤) where
    pub loan_typed : (s : StridedMut) → Is (S.the_row a) s (S'.lowered s ∷ []) → Typed (S.the_row a).mir (S'.lowered s ∷ [])
    loan_typed s is = (lawful (S.the_type a) (S'.the_laws a) 𝓛).typed s (S'.lowered s ∷ []) is

    pub pair_typed : (s t : StridedMut) → Is (S.the_row a) s (S'.lowered s ∷ []) → Is (S.the_row a) t (S'.lowered t ∷ [])
        → T (has_tys (tcons (layout (shape (S.the_type a))) (tcons (layout (shape (S.the_type a))) tnil)) (vcons (S'.lowered s) (vcons (S'.lowered t) vnil))) × WT (pair_val (S'.lowered s) (S'.lowered t))
    pair_typed s t is it =
        let σ = layout (shape (S.the_type a)) in
        as_fields (σ ∷ σ ∷ []) (S'.lowered s ∷ S'.lowered t ∷ []) ((loan_typed s is).0, ((loan_typed t it).0, tt))

    pub taken_out : (s : StridedMut) (vs : List Val) → ent 𝓤 (sem 𝓛 ((S.the_row a).own_val s vs)) (sem 𝓛 (Bytes.own_val s.bytes (mut_slice_vals s.bytes)))
    taken_out s vs =
        qed 𝓛 (‵ ((S.the_row a).own_val s vs) ∷ []) ∵ fpick ! (λ vss. fsplit ! $ drop ! $ fsplit ! $
        peeks ! Bytes (Is Bytes) (shows 𝓛 Bytes) s.bytes vss.0 (λ is.
        rewrite ! 0 (λ (ws : List Val). ‵ (Bytes.own_val s.bytes ws)) is.0.0 refl $ keep ! (0 ∷ []) $ done !))

    pub made_of : (s : StridedMut) → Is D.the_row s.ty (D'.lowered s.ty ∷ []) → s.stride < 2 ^ 64 → s.count < 2 ^ 64
        → ent 𝓤 (sem 𝓛 (Bytes.own_val s.bytes (mut_slice_vals s.bytes))) (sem 𝓛 ((S.the_row a).own_val s (S'.lowered s ∷ [])))
    made_of s ty stride count =
        qed 𝓛 (‵ (Bytes.own_val s.bytes (mut_slice_vals s.bytes)) ∷ []) ∵
        nothing ! $ owned ! u64 (Is u64) (uint_Makes 𝓛 w64) s.count (uint_vals w64 s.count) (refl, count) $ fjoin ! $
        owned ! u64 (Is u64) (uint_Makes 𝓛 w64) s.stride (uint_vals w64 s.stride) (refl, stride) $ fjoin ! $
        owned ! D.the_row (Is D.the_row) (makes D.the_type D'.the_plain 𝓛) s.ty (D'.lowered s.ty ∷ []) ty $ fjoin ! $
        move ! (1 ∷ 0 ∷ []) $ fjoin ! $ feq_i ! (List Val) (S'.lowered s ∷ []) (S'.lowered s ∷ []) refl $ fjoin ! $
        fpack ! (Valss (fields (S.the_type a))) (within (shape (S.the_type a)) ((S.the_type a).to s) (S'.lowered s ∷ []))
        (mut_slice_vals s.bytes, (D'.lowered s.ty ∷ [], (uint_vals w64 s.stride, (uint_vals w64 s.count, tt)))) $ done !

-- a pair is made of its two values
pub paired : {M : Type 1} {𝓤 : Ura M} (𝓛 : Logic 𝓤) (R : RattleType) (x y : R.Denot) (u v : Val)
    → ent 𝓤 (sep 𝓤 (sem 𝓛 (R.own_val x (u ∷ []))) (sem 𝓛 (R.own_val y (v ∷ [])))) (sem 𝓛 ((Tuple (R ∷ R ∷ [])).own_val (x, y) (pair_val u v ∷ [])))
paired 𝓛 R x y u v =
    qed 𝓛 (‵ (R.own_val x (u ∷ [])) ∷ ‵ (R.own_val y (v ∷ [])) ∷ []) ∵ nothing ! $ move ! (2 ∷ 0 ∷ []) $ fjoin ! $ move ! (1 ∷ 0 ∷ []) $ fjoin ! $
    feq_i ! (List Val) (pair_val u v ∷ []) (pair_val u v ∷ []) refl $ fjoin ! $
    fpack ! (Valss (R ∷ R ∷ [])) (within (shape (tuple_type (R ∷ R ∷ []))) (x, (y, tt)) (pair_val u v ∷ [])) (u ∷ [], (v ∷ [], tt)) $ done !

-- a loan that is used up leaves nothing to give back
pub spent : {M : Type 1} {𝓤 : Ura M} (𝓛 : Logic 𝓤) → Goes 𝓛 1 (plain (λ κs. S.the_row (named_lft 1 0 tt κs))) no (stay_dropped (plain (λ κs. S.the_row (named_lft 1 0 tt κs))) no)
spent {𝓤 = 𝓤} 𝓛 κs x f vs ok = via 𝓤 _ (had 𝓛 (left ((S.the_row (named_lft 1 0 tt κs)).exit no) x f) tt) (𝓛.laws.⇛_intro _)

-- what two parts were left at is what the block that follows them was left at
pub both_left : {M : Type 1} {𝓤 : Ura M} (𝓛 : Logic 𝓤) (γ γ₁ γ₂ : GName) (xs ys : List ℕ)
    → ent 𝓤 (sep 𝓤 (sem 𝓛 (follows_both (Array u8 0) (Array u8 0) (Array u8 0) γ γ₁ γ₂ ◌++◌)) (sep 𝓤 (sem 𝓛 (finally u8 γ₁ xs)) (sem 𝓛 (finally u8 γ₂ ys)))) (sem 𝓛 (finally u8 γ (xs ++ ys)))
unfolding both_by
both_left {𝓤 = 𝓤} 𝓛 γ γ₁ γ₂ xs ys =
    let Res = λ (δ : GName) (zs : List ℕ). fres δ ((coded_list u8.coded).code zs) in
    let Both = λ (w : List ℕ × List ℕ). wand 𝓤 (sep 𝓤 (sem 𝓛 (Res γ₁ w.0)) (sem 𝓛 (Res γ₂ w.1))) (sem 𝓛 (Res γ (w.0 ++ w.1))) in
    qed 𝓛 (‵ (follows_both (Array u8 0) (Array u8 0) (Array u8 0) γ γ₁ γ₂ ◌++◌) ∷ (‵ (finally u8 γ₁ xs) ⊛ ‵ (finally u8 γ₂ ys)) ∷ []) ∵
    use1 𝓛 (raw (Both (xs, ys))) (all_e 𝓤 Both (xs, ys)) $ move ! (1 ∷ []) $ split ! $
    use1 𝓛 (‵ (Res γ₁ xs)) (finally-res 𝓛 u8 γ₁ xs) $ move ! (1 ∷ []) $ use1 𝓛 (‵ (Res γ₂ ys)) (finally-res 𝓛 u8 γ₂ ys) $ move ! (1 ∷ 0 ∷ []) $ join ! $
    use2 𝓛 (‵ (Res γ (xs ++ ys))) (apply∗ 𝓤 (sep 𝓤 (sem 𝓛 (Res γ₁ xs)) (sem 𝓛 (Res γ₂ ys))) (sem 𝓛 (Res γ (xs ++ ys)))) $
    rewrite ! 0 (λ (zs : List ℕ). ‵ (Res γ zs)) (sym (heres_id u8 (xs ++ ys))) refl $ by ! (res-finally 𝓛 erased [] u8 γ (xs ++ ys))
