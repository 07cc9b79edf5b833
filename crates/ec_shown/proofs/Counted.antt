-- Texts of a length, and so many names.
use Rattle.std.proofs.Common.{◌≡◌, ℕ, zero, suc, List, [], ◌∷◌, ◌++◌, length, Some, refl, sym, ap, subst, ◌∙◌, append_assoc}
use Rattle.std.proofs.lemmas.List.{append-nil}
use Rattle.ec_words.specs.declared.cursor.Misfit.{Misfit}
use Rattle.ec_words.specs.declared.cursor.Misfit.TheVariants as misfit
use Rattle.ec_words.specs.Rows.{Word, End, Begins}
use Rattle.ec_words.specs.RowsLeft.{Lacks, IsMisfit, Example}
use Rattle.ec_words.specs.Spelling.{led_by}
use Rattle.ec_words.proofs.Fits.{unfit_none, unfit_first}
use Rattle.ec_words.proofs.Misfits.{same_words, made, begins_last, last_lacks, last_has, last_is, one_behind}
use Rattle.ec_shown.specs.Spelling.{written_of, bare_byte, IsTextOf}
use Rattle.ec_shown.specs.Rows.{Times}
use Rattle.ec_shown.specs.Answers.{TextOf}
use Rattle.ec_shown.proofs.Escapes.{bare_next}

-- Texts.

-- the text of so many `x`
abbrev xs : ℕ → List ℕ
xs zero = []
xs (suc n) = 120 ∷ xs n

xs_text : (n : ℕ) → written_of (xs n) ≡ Some (xs n)
xs_text zero = refl
xs_text (suc n) = bare_next 120 (xs n) refl ∙ ap (led_by (bare_byte 120)) (xs_text n)

xs_len : (n : ℕ) → length (xs n) ≡ n
xs_len zero = refl
xs_len (suc n) = ap suc (xs_len n)

pub a_text_of : (n : ℕ) → Example (IsTextOf n)
a_text_of n = (xs n, (xs n, (xs_text n, xs_len n)))

pub begins_text : (n : ℕ) → Begins (TextOf n) []
begins_text zero = ([], ([], (tt, (refl, refl))))
begins_text (suc n) = begins_last (IsTextOf (suc n)) (a_text_of (suc n))

pub none_left : (n : ℕ) (ws : List Word) (e : Misfit) → n ≡ 0 → IsMisfit End ws e → IsMisfit (TextOf n) ws e
none_left n ws e z r = subst (λ m. IsMisfit (TextOf m) ws e) (sym z) (made End (λ u. []) ws e r)

pub none_is : (n : ℕ) (ws : List Word) (bytes : List ℕ) → n ≡ 0 → ws ≡ [] → bytes ≡ [] → TextOf n ws bytes
none_is n ws bytes z e b = subst (λ m. TextOf m ws bytes) (sym z) (tt, (e, sym b))

pub text_lacks : (n m : ℕ) (ws : List Word) (e : Misfit) → n ≡ suc m → Lacks (IsTextOf n) ws e → IsMisfit (TextOf n) ws e
text_lacks n m ws e is l = subst (λ k. IsMisfit (TextOf k) ws e) (sym is) (last_lacks (IsTextOf (suc m)) ws e (a_text_of (suc m)) (subst (λ k. Lacks (IsTextOf k) ws e) is l))

pub text_has : (n m : ℕ) (ws : List Word) (w : Word) (rest : List Word) (bytes : List ℕ) (e : Misfit) → n ≡ suc m → ws ≡ w ∷ rest → IsTextOf n w bytes → IsMisfit End rest e → IsMisfit (TextOf n) ws e
text_has n m ws w rest bytes e k is p r = subst (λ k. IsMisfit (TextOf k) ws e) (sym k) (last_has (IsTextOf (suc m)) ws w rest bytes e is (subst (λ k. IsTextOf k w bytes) k p) r)

pub text_is : (n m : ℕ) (ws : List Word) (w : Word) (rest : List Word) (bytes : List ℕ) → n ≡ suc m → ws ≡ w ∷ rest → IsTextOf n w bytes → rest ≡ [] → TextOf n ws bytes
text_is n m ws w rest bytes k is p e = subst (λ k. TextOf k ws bytes) (sym k) (last_is (IsTextOf (suc m)) ws w rest bytes is (subst (λ k. IsTextOf k w bytes) k p) e)

-- So many words.

pub begins_times : {V : Type 0} (P : Word → V → Type 0) → Example P → (n : ℕ) → Begins (Times P n) []
begins_times P e zero = ([], ([], (refl, refl)))
begins_times P e (suc n) = let b = begins_times P e n in (e.0 ∷ b.0, (e.1.0 ∷ b.1.0, (e.1.1, b.1.1)))

times_stuck : {V : Type 0} (P : Word → V → Type 0) (n : ℕ) (w : Word) → ((v : V) → P w v → ⊥) → (rest : List Word) (vs : List V) → Times P (suc n) (w ∷ rest) vs → ⊥
times_stuck P n w l rest [] g = g
times_stuck P n w l rest (v ∷ vs) g = l v g.0

times_first : {V : Type 0} (P : Word → V → Type 0) → Example P → (n : ℕ) (ws : List Word) (e : Misfit) → Lacks P ws e → IsMisfit (Times P (suc n)) ws e
times_first P x n ws misfit.NoMemory l = tt
times_first P x n [] (misfit.Unfit m) l = (0, (unfit_none (Times P (suc n)) (begins_times P x (suc n)) (λ y g. g), l.0))
times_first P x n (w ∷ ws) (misfit.Unfit m) l = (0, (unfit_first (Times P (suc n)) w ws (begins_times P x (suc n)) (times_stuck P n w (λ v p. l.1 w ws v refl p)), l.0))

times_down : {V : Type 0} (P : Word → V → Type 0) (n : ℕ) (w : Word) (ws : List Word) (vs : List V) → Times P (suc n) (w ∷ ws) vs → (us : List V) × Times P n ws us
times_down P n w ws [] g = absurd g
times_down P n w ws (v ∷ vs) g = (vs, g.1)

-- What was read of so many words, and how many are left to be read: as the rest goes on, so does the whole.
abbrev pub Read : {V : Type 0} → (Word → V → Type 0) → ℕ → List Word → List V → ℕ → List Word → Type 0
Read {V} P n ws vs m rest =
    ((more : List V) → Times P m rest more → Times P n ws (vs ++ more)) × ((e : Misfit) → IsMisfit (Times P m) rest e → IsMisfit (Times P n) ws e)

pub read_none : {V : Type 0} (P : Word → V → Type 0) (n : ℕ) (ws : List Word) (vs : List V) → vs ≡ [] → Read P n ws vs n ws
read_none P n ws vs is = ((λ more g. subst (λ l. Times P n ws (l ++ more)) (sym is) g), (λ e r. r))

pub read_one : {V : Type 0} (P : Word → V → Type 0) (n : ℕ) (ws : List Word) (vs : List V) (m k : ℕ) (rest : List Word) (w : Word) (behind : List Word) (v : V) (new : List V) → Read P n ws vs m rest → m ≡ suc k → rest ≡ w ∷ behind → P w v → new ≡ vs ++ v ∷ [] → Read P n ws new k behind
read_one P n ws vs m k rest w behind v new r s is p push = (
  (λ more g. subst (λ l. Times P n ws (l ++ more)) (sym push) (subst (Times P n ws) (sym (append_assoc vs (v ∷ []) more)) (r.0 (v ∷ more) (subst (λ j. Times P j rest (v ∷ more)) (sym s) (subst (λ d. Times P (suc k) d (v ∷ more)) (sym is) (p, g)))))),
  (λ e q. r.1 e (subst (λ j. IsMisfit (Times P j) rest e) (sym s) (one_behind (Times P k) (Times P (suc k)) w (λ us. v ∷ us) (λ ws x g. (p, g)) (times_down P k w) rest behind e is q))),
)

pub read_lacks : {V : Type 0} (P : Word → V → Type 0) → Example P → (n : ℕ) (ws : List Word) (vs : List V) (m k : ℕ) (rest : List Word) (e : Misfit) → Read P n ws vs m rest → m ≡ suc k → Lacks P rest e → IsMisfit (Times P n) ws e
read_lacks P x n ws vs m k rest e r s l = r.1 e (subst (λ j. IsMisfit (Times P j) rest e) (sym s) (times_first P x k rest e l))

pub read_more : {V : Type 0} (P : Word → V → Type 0) (n : ℕ) (ws : List Word) (vs : List V) (m : ℕ) (rest : List Word) (e : Misfit) → Read P n ws vs m rest → m ≡ 0 → IsMisfit End rest e → IsMisfit (Times P n) ws e
read_more P n ws vs m rest e r z q = r.1 e (subst (λ j. IsMisfit (Times P j) rest e) (sym z) (same_words End (Times P 0) (λ u. []) (λ ws x g. (g, refl)) (λ ws y g. (tt, g.0)) rest e q))

pub read_all : {V : Type 0} (P : Word → V → Type 0) (n : ℕ) (ws : List Word) (vs : List V) (m : ℕ) (rest : List Word) → Read P n ws vs m rest → m ≡ 0 → rest ≡ [] → Times P n ws vs
read_all P n ws vs m rest r z e = subst (Times P n ws) (append-nil vs) (r.0 [] (subst (λ j. Times P j rest []) (sym z) (e, refl)))
