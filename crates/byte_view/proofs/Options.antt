-- An optional loan: how it lies in the machine, and how the block ends where there is one and where there is none. Assumes `Logic`.
use Rattle.std.proofs.lemmas.Bool.{false≢true}
use Rattle.std.proofs.Common.{sym, ◌∙◌, ℕ, Bool, true, false, not, IsTrue, ◌≡◌, List, [], ◌∷◌, refl, lit<, MutBor}
use seplogic.Ra.Ura.{Ura}
use lib.Dec.{T}
use mir.Syntax.{erased, tcons, tnil}
use mir.Val.{Val, vcons, vnil, has_tys, WT}
use base.Fml.{GName, Fml, fsep, fex, feq, fauth, fres}
use base.Stored.{Gv}
use base.Logic.{ent, emp, wand}
use types.Logic.{Logic, sem}
use types.Match.{live}
use denote.FollowSlice.{heres_id}
use denote.Slice.{finally, res-finally}
use types.Kit.{by, fpick, ‵, ◌$◌, ◌∵◌, !, qed, move, rewrite, fjoin, fpack, feq_i, use0, each, assume, done}
use denote.Array.{Array}
use denote.Builtin.{u8}
use denote.Enum.Declared.{shape as variants_of}
use denote.Enum.Enum.{form_of, in_a_row}
use denote.Enum.Row.{tagged_with}
use denote.Follow.{follows, follows_by, such_by}
use mathlib.Core.Option as maybe
use denote.Laws.{Is}
use denote.RattleType.{RattleType, Valss, owns}
use denote.Ref.{NamedLft}
use denote.Steps.{nothing}
use denote.Struct.Declared.{shape}
use denote.Struct.Struct.{as_fields, layout}
use Rattle.std.specs.Borrow.{RestsIfNone}
use Rattle.std.specs.Prelude.{Option, OnSome, IfNone}
use Rattle.std.specs.declared.option.Option.TheVariants.{None, Some}
use Rattle.std.specs.contracts.option.Option as O
use Rattle.byte_view.specs.Halves.{borrow_of}
use Rattle.byte_view.specs.declared.writes.StridedMut.{StridedMut}
use Rattle.byte_view.specs.contracts.writes.StridedMut as S
use Rattle.byte_view.proofs.writes.StridedMut.TheLaws as S'
use Rattle.byte_view.proofs.Loans.{loan_typed}

-- what the two arms of a test know
pub holds : (b : Bool) → T b → IsTrue b
holds true t = refl
holds false t = absurd t

pub fails : (b : Bool) → T (not b) → IsTrue b → ⊥
fails true t e = absurd t
fails false t e = false≢true e

-- the machine values
abbrev pub some_val : Val → Val
some_val v = live 1 (vcons v vnil)

abbrev pub none_val : Val
none_val = live 0 vnil

module _ {M : Type 1} {𝓤 : Ura M} (𝓛 : Logic 𝓤) (R : RattleType) where
  pub owned_some : (x : R.Denot) (v : Val) → ent 𝓤 (sem 𝓛 (R.own_val x (v ∷ []))) (sem 𝓛 ((O.the_row R).own_val (Some x) (some_val v ∷ [])))
  owned_some x v =
      let Form = form_of (variants_of (O.the_type R)) in
      qed 𝓛 (‵ (R.own_val x (v ∷ [])) ∷ []) ∵ nothing ! $ move ! (1 ∷ 0 ∷ []) $ fjoin ! $
      feq_i ! (List Val) (v ∷ []) (v ∷ []) refl $ fjoin ! $ fpack ! (Valss (R ∷ [])) (in_a_row (R ∷ []) (owns (R ∷ []) (x, tt)) (v ∷ [])) (v ∷ [], tt) $
      feq_i ! (List Val) (some_val v ∷ []) (some_val v ∷ []) refl $ fjoin ! $ fpack ! (List Val) (tagged_with Form Form.payload ((O.the_type R).to (Some x)) (some_val v ∷ [])) (v ∷ []) $ done !

  pub owned_none : ent 𝓤 (emp 𝓤) (sem 𝓛 ((O.the_row R).own_val None (none_val ∷ [])))
  owned_none =
      let Form = form_of (variants_of (O.the_type R)) in
      qed 𝓛 [] ∵ nothing ! $ feq_i ! (List Val) [] [] refl $ fjoin ! $ fpack ! (Valss []) (in_a_row [] (owns [] tt) []) tt $
      feq_i ! (List Val) (none_val ∷ []) (none_val ∷ []) refl $ fjoin ! $ fpack ! (List Val) (tagged_with Form Form.payload ((O.the_type R).to None) (none_val ∷ [])) [] $ done !

-- a loan as the field of a variant
pub field_typed : {M : Type 1} {𝓤 : Ura M} (𝓛 : Logic 𝓤) (a : NamedLft) (s : StridedMut) → Is (S.the_row a) s (S'.lowered s ∷ [])
    → T (has_tys (tcons (layout (shape (S.the_type a))) tnil) (vcons (S'.lowered s) vnil)) × WT (some_val (S'.lowered s))
field_typed 𝓛 a s is =
    let fields = as_fields (layout (shape (S.the_type a)) ∷ []) (S'.lowered s ∷ []) ((loan_typed a 𝓛 s is).0, tt) in
    (fields.0, (record { fits = lit< tt }, fields.1))

module _ {M : Type 1} {𝓤 : Ura M} (𝓛 : Logic 𝓤) where
  open 𝓛 use {A}

  abbrev Block : RattleType
  Block = Array u8 0

  abbrev code : List ℕ → Gv
  code = Block.coded.code

  -- a borrow follows itself
  follows_itself : (γ : GName) → ent 𝓤 (emp 𝓤) (sem 𝓛 (follows Block Block γ γ (λ w. w)))
  follows_itself γ =
      let From : List ℕ → List ℕ → Fml = λ z w. fsep (feq (List ℕ) z w) (fauth γ (code w)) in
      let said = qed 𝓛 [] ∵ each ! (λ (w : List ℕ). wand 𝓤 (A.res γ (code w)) (A.res γ (code w))) (λ w. assume ! (‵ (fres γ (code w))) $ done !) in
      let back = qed 𝓛 [] ∵ each ! (λ (z : List ℕ). wand 𝓤 (A.auth γ (code z)) (sem 𝓛 (fex (List ℕ) (From z)))) (λ z. assume ! (‵ (fauth γ (code z))) $
      feq_i ! (List ℕ) z z refl $ fjoin ! $ fpack ! (List ℕ) (From z) z $ done !) in
      record { apply = λ a p. (said.apply a p, back.apply a p) }

  module _ (s : MutBor (List ℕ)) where
    abbrev Picks : Option StridedMut → Type 0
    Picks o = (p : (List ℕ → List ℕ) × List ℕ) × ((w : List ℕ) → OnSome o (p.0 w ≡ w)) × IfNone o (p.1 ≡ s.now)

    -- with no loan the block ends as it was
    pub rests : ent 𝓤 (sem 𝓛 (fres s.ghost_name (code s.now))) (sem 𝓛 (RestsIfNone Block s borrow_of None (λ last. last ≡ s.now)))
    unfolding such_by follows_by
    rests =
        qed 𝓛 (‵ (fres s.ghost_name (code s.now)) ∷ []) ∵
        fpack ! (Picks None) (λ q. follows_by (List ℕ) (List ℕ) code code s.ghost_name maybe.none q.0.0 q.0.1) ((λ w. w, s.now), λ w. tt, refl) $ done !

    -- with one it ends as the loan's last bytes
    pub follows_loan : (t : StridedMut) → s.ghost_name ≡ borrow_of t → ent 𝓤 (emp 𝓤) (sem 𝓛 (RestsIfNone Block s borrow_of (Some t) (λ last. last ≡ s.now)))
    unfolding such_by follows_by
    follows_loan t same =
        qed 𝓛 [] ∵ use0 𝓛 (‵ (follows Block Block s.ghost_name s.ghost_name (λ w. w))) (follows_itself s.ghost_name) $
        rewrite ! 0 (λ (γ : GName). ‵ (follows Block Block s.ghost_name γ (λ w. w))) same refl $
        fpack ! (Picks (Some t)) (λ q. follows_by (List ℕ) (List ℕ) code code s.ghost_name (maybe.some (borrow_of t)) q.0.0 q.0.1) ((λ w. w, s.now), λ w. refl, tt) $ done !

    -- so there is its last value
    pub rested : ent 𝓤 (sem 𝓛 (RestsIfNone Block s borrow_of None (λ last. last ≡ s.now))) (sem 𝓛 (finally u8 s.ghost_name s.now))
    unfolding such_by follows_by
    rested =
        qed 𝓛 (‵ (RestsIfNone Block s borrow_of None (λ last. last ≡ s.now)) ∷ []) ∵ fpick ! (λ q.
        rewrite ! 0 (λ (bs : List ℕ). ‵ (fres s.ghost_name (code bs))) (q.2 ∙ sym (heres_id u8 s.now)) refl $ by ! (res-finally 𝓛 erased [] u8 s.ghost_name s.now))

pub by_option : {X : Type 0} {Y : Type 1} (o : Option X) → (o ≡ None → Y) → ((x : X) → o ≡ Some x → Y) → Y
by_option None none some = none refl
by_option (Some x) none some = some x refl
