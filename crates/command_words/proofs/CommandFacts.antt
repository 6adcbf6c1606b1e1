-- Commands are refused where their options are.
use Rattle.std.proofs.Common.{◌≡◌, ◌∙◌, ◌⊎◌, inl, inr, ℕ, Bool, List, [], ◌∷◌, map, Option, Some, None, Result, Ok, Err, IsErrAnd, true, false, true≢false, not, cond, option_map, refl, sym, ap, ap₂, ◌||◌, ◌&&◌, nat_le, length, codes}
use Rattle.std.specs.Prelude.{◌==◌, option_and_then}
use Rattle.std.specs.List.{list_any}
use Rattle.std.specs.Str.{bytes_eq}
use Rattle.std.proofs.lemmas.Bool.{cases_Bool, eqb-true}
use Rattle.std.proofs.lemmas.Slice.Eq.{bytes_eq-Decides}
use Rattle.clap.specs.Lexer.{strip_byte}
use Rattle.clap.specs.Walk.{Text}
use Rattle.command_words.specs.Options.{are_taken, value_of}
use Rattle.command_words.specs.Commands.{alone, needed, of_three, print_of, print_or_images, run_of, run_with, solo_of, workers_or_four}
use Rattle.command_words.specs.Numbers.{between, number_in}
use Rattle.command_words.specs.Reading.{are_plain, dashed, is_plain}
use Rattle.std.specs.Str.Parse.{digits_value}
use Rattle.report_text.specs.declared.prints.Print.{Print}
use Rattle.command_words.specs.declared.commands.Command.{Command}
use Rattle.command_words.specs.declared.commands.Command.TheVariants.{Solo}
use Rattle.command_words.proofs.CutFacts.{none_some}
use Rattle.command_words.proofs.BridgeFacts.{known_any, plain_options, taken_is_good}
use Rattle.command_words.proofs.ReadFacts.{ArePlain}

abbrev Options : Type 0
Options = List (Text × Option Text)

pub same_err : {T E : Type 0} (r : Result T E) (f x : E) → IsErrAnd r (λ e. e ≡ f) → r ≡ Err x → f ≡ x
same_err (Ok v) f x is e = absurd is
same_err {T} {E} (Err y) f x is e = sym is ∙ ap (err_or y) e
  where
    err_or : E → Result T E → E
    err_or d (Ok v) = d
    err_or d (Err z) = z

-- a text that begins with no hyphen
pub plain_text : (v : Text) → strip_byte 45 v ≡ None → is_plain v ≡ true
plain_text [] e = refl
plain_text (x ∷ xs) e = go (cases_Bool (x == 45))
  where
    go : ((x == 45) ≡ true) ⊎ ((x == 45) ≡ false) → not (x == 45) ≡ true
    go (inl y) = absurd (none_some (sym e ∙ ap (λ b. cond b (Some xs) None) y))
    go (inr y) = ap not y

plain_test : (names : List Text) (options : Options) → ArePlain names options → are_plain options ≡ true
plain_test names [] plain = refl
plain_test names ((n, None) ∷ rest) plain = plain_test names rest plain
plain_test names ((n, Some v) ∷ rest) plain = ap₂ (λ a b. a && b) (plain_text v plain.0) (plain_test names rest plain.1)

-- a value of some name is not plain
pub unplain : (names : List Text) (options : Options) → (are_taken (map dashed names) options && are_plain options) ≡ false → are_taken (map dashed names) options ≡ true
    → ((m v : Text) → list_any (bytes_eq (dashed m)) (map dashed names) ≡ true → value_of (dashed m) options ≡ Some v → strip_byte 45 v ≡ None) → ⊥
unplain names options refused taken plain =
    let all : ArePlain names options = plain_options names [] options (taken_is_good names options taken) (λ m v known is. plain m v (known_any names m known) is) in
    true≢false (sym (ap₂ (λ a b. a && b) taken (plain_test names options all)) ∙ refused)

print_plain : (v : Text) (p : Print) → print_of v ≡ Some p → strip_byte 45 v ≡ None
print_plain [] p e = refl
print_plain (x ∷ xs) p e = go (cases_Bool (x == 45))
  where
    go : ((x == 45) ≡ true) ⊎ ((x == 45) ≡ false) → strip_byte 45 (x ∷ xs) ≡ None
    go (inl y) = absurd (none_some (sym (ap (λ k. print_of (k ∷ xs)) (eqb-true x 45 y)) ∙ e))
    go (inr y) = ap (λ b. cond b (Some xs) None) y

number_plain : (least most : ℕ) (v : Text) (n : ℕ) → number_in least most v ≡ Some n → strip_byte 45 v ≡ None
number_plain least most [] n e = refl
number_plain least most (x ∷ xs) n e = go (cases_Bool (x == 45))
  where
    never : (b c : Bool) → (b && (c && false)) ≡ false
    never true true = refl
    never true false = refl
    never false c = refl

    at_hyphen : number_in least most (45 ∷ xs) ≡ None
    at_hyphen = ap (λ b. option_and_then (between least most) (cond b (Some (digits_value 10 (45 ∷ xs))) None)) (never (nat_le 1 (length (45 ∷ xs))) (nat_le (length (45 ∷ xs)) 10))

    go : ((x == 45) ≡ true) ⊎ ((x == 45) ≡ false) → strip_byte 45 (x ∷ xs) ≡ None
    go (inl y) = absurd (none_some (sym (ap (λ k. number_in least most (k ∷ xs)) (eqb-true x 45 y) ∙ at_hyphen) ∙ e))
    go (inr y) = ap (λ b. cond b (Some xs) None) y

-- a value that is given by this name begins with no hyphen
abbrev Fits : Options → Text → Type 0
Fits options name = (v : Text) → value_of name options ≡ Some v → strip_byte 45 v ≡ None

abbrev AllFit : Options → List Text → Type 0
AllFit options [] = Unit {0}
AllFit options (name ∷ names) = Fits options name × AllFit options names

fits_of : (options : Options) (names : List Text) (name : Text) → AllFit options names → list_any (bytes_eq name) names ≡ true → Fits options name
fits_of options [] name all known = absurd (true≢false (sym known))
fits_of options (n ∷ ns) name all known = go (cases_Bool (bytes_eq name n)) (fits_of options ns name all.1)
  where
    go : (bytes_eq name n ≡ true) ⊎ (bytes_eq name n ≡ false) → (list_any (bytes_eq name) ns ≡ true → Fits options name) → Fits options name
    go (inl y) more = λ v given. all.0 v (ap (λ t. value_of t options) (sym ((bytes_eq-Decides name n).0 y)) ∙ given)
    go (inr y) more = more (sym (ap (λ b. b || list_any (bytes_eq name) ns) y) ∙ known)

-- words are not refused whose values all fit
none_fit : (options : Options) (names : List Text) → (are_taken (map dashed names) options && are_plain options) ≡ false → are_taken (map dashed names) options ≡ true
    → AllFit options (map dashed names) → ⊥
none_fit options names refused taken fit = unplain names options refused taken (λ m v known given. fits_of options (map dashed names) (dashed m) fit known v given)

-- what refused words cannot give
either_none : {T : Type 0} (b : Bool) (o : Option T) → (b ≡ true → (t : T) → o ≡ Some t → ⊥) → cond b o None ≡ None
either_none true None never = refl
either_none true (Some t) never = absurd (never refl t refl)
either_none false o never = refl

print_fits : (options : Options) (name : Text) (p : Print) → print_or_images (value_of name options) ≡ Some p → Fits options name
print_fits options name p asked v given = print_plain v p (ap print_or_images (sym given) ∙ asked)

workers_fit : (options : Options) (name : Text) (n : ℕ) → workers_or_four (value_of name options) ≡ Some n → Fits options name
workers_fit options name n asked v given = number_plain 0 16 v n (ap workers_or_four (sym given) ∙ asked)

needed_fits : (options : Options) (name : Text) (least most n : ℕ) → needed least most (value_of name options) ≡ Some n → Fits options name
needed_fits options name least most n asked v given = number_plain least most v n (ap (needed least most) (sym given) ∙ asked)

abbrev IsRefused : List Text → Options → Type 0
IsRefused names options = (are_taken (map dashed names) options && are_plain options) ≡ false

abbrev pub print_in : Options → Option Print
print_in options = print_or_images (value_of (codes "--print") options)

abbrev pub workers_in : Options → Option ℕ
workers_in options = workers_or_four (value_of (codes "--workers") options)

pub solo_refused : (options : Options) → IsRefused (codes "print" ∷ []) options → solo_of options ≡ None
solo_refused options refused = either_none (are_taken (codes "--print" ∷ []) options) (option_map Solo (print_in options)) (λ taken c some. by_print taken c (print_in options) refl some)
  where
    by_print : are_taken (codes "--print" ∷ []) options ≡ true → (c : Command) (o : Option Print) → print_in options ≡ o → option_map Solo o ≡ Some c → ⊥
    by_print taken c None is some = none_some some
    by_print taken c (Some p) is some = none_fit options (codes "print" ∷ []) refused taken (print_fits options (codes "--print") p is, tt)

pub run_refused : (options : Options) → IsRefused (codes "print" ∷ codes "workers" ∷ []) options → run_of options ≡ None
run_refused options refused = either_none (are_taken (codes "--print" ∷ codes "--workers" ∷ []) options) (run_with (print_in options) (workers_in options)) (λ taken c some. by_values taken c (print_in options) (workers_in options) refl refl some)
  where
    by_values : are_taken (codes "--print" ∷ codes "--workers" ∷ []) options ≡ true → (c : Command) (o : Option Print) (w : Option ℕ) → print_in options ≡ o → workers_in options ≡ w → run_with o w ≡ Some c → ⊥
    by_values taken c None w is1 is2 some = none_some some
    by_values taken c (Some p) None is1 is2 some = none_some some
    by_values taken c (Some p) (Some n) is1 is2 some =
        none_fit options (codes "print" ∷ codes "workers" ∷ []) refused taken (print_fits options (codes "--print") p is1, (workers_fit options (codes "--workers") n is2, tt))

-- a replay with threads is not given without what is printed, and not without a number of workers
pub no_print : (options : Options) → print_in options ≡ None → run_of options ≡ None
no_print options none = either_none (are_taken (codes "--print" ∷ codes "--workers" ∷ []) options) (run_with (print_in options) (workers_in options))
    (λ taken c some. none_some (sym (ap (λ p. run_with p (workers_in options)) none) ∙ some))

pub no_workers : (options : Options) → workers_in options ≡ None → run_of options ≡ None
no_workers options none = either_none (are_taken (codes "--print" ∷ codes "--workers" ∷ []) options) (run_with (print_in options) (workers_in options))
    (λ taken c some. never (print_in options) c (sym (ap (run_with (print_in options)) none) ∙ some))
  where
    never : (p : Option Print) (c : Command) → run_with p None ≡ Some c → ⊥
    never None c some = none_some some
    never (Some p) c some = none_some some

-- refused words do not give three numbers that are needed
pub three_refused : {T : Type 0} (options : Options) (make : ℕ → ℕ → ℕ → T) (a b c : Text) (la ma lb mb lc mc : ℕ) → IsRefused (a ∷ b ∷ c ∷ []) options
    → cond (are_taken (dashed a ∷ dashed b ∷ dashed c ∷ []) options)
    (of_three make (needed la ma (value_of (dashed a) options)) (needed lb mb (value_of (dashed b) options)) (needed lc mc (value_of (dashed c) options))) None ≡ None
three_refused {T} options make a b c la ma lb mb lc mc refused = either_none (are_taken (dashed a ∷ dashed b ∷ dashed c ∷ []) options)
    (of_three make (needed la ma (value_of (dashed a) options)) (needed lb mb (value_of (dashed b) options)) (needed lc mc (value_of (dashed c) options)))
    (λ taken t some. by_values taken t (needed la ma (value_of (dashed a) options)) (needed lb mb (value_of (dashed b) options)) (needed lc mc (value_of (dashed c) options)) refl refl refl some)
  where
    by_values : are_taken (dashed a ∷ dashed b ∷ dashed c ∷ []) options ≡ true → (t : T) (x y z : Option ℕ) → needed la ma (value_of (dashed a) options) ≡ x
        → needed lb mb (value_of (dashed b) options) ≡ y → needed lc mc (value_of (dashed c) options) ≡ z → of_three make x y z ≡ Some t → ⊥
    by_values taken t None y z ex ey ez some = none_some some
    by_values taken t (Some x) None z ex ey ez some = none_some some
    by_values taken t (Some x) (Some y) None ex ey ez some = none_some some
    by_values taken t (Some x) (Some y) (Some z) ex ey ez some = none_fit options (a ∷ b ∷ c ∷ []) refused taken
        (needed_fits options (dashed a) la ma x ex, (needed_fits options (dashed b) lb mb y ey, (needed_fits options (dashed c) lc mc z ez, tt)))

pub alone_refused : (command : Command) (options : Options) → IsRefused [] options → alone command options ≡ None
alone_refused command options refused = by_taken (cases_Bool (are_taken [] options))
  where
    by_taken : (are_taken [] options ≡ true) ⊎ (are_taken [] options ≡ false) → alone command options ≡ None
    by_taken (inl taken) = absurd (none_fit options [] refused taken tt)
    by_taken (inr not) = rw not refl
