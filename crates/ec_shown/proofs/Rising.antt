-- Operations read one by one.
use Rattle.std.proofs.Common.{◌≡◌, ℕ, ◌+◌, ◌-◌, ◌^◌, List, [], ◌∷◌, ◌++◌, codes, refl, sym, ap, subst, ◌∙◌, append_assoc, arith}
use Rattle.std.proofs.lemmas.List.{append-nil}
use Rattle.ec_words.specs.declared.cursor.Misfit.{Misfit}
use Rattle.ec_words.specs.declared.cursor.Misfit.TheVariants as misfit
use Rattle.ec_words.specs.Rows.{Word, End, Begins, FirstUnfit}
use Rattle.ec_words.specs.RowsLeft.{Lacks, joined_len, IsMisfit}
use Rattle.ec_words.specs.Spelling.{IsNumber}
use Rattle.ec_words.proofs.Fits.{unfit_none, unfit_first}
use Rattle.ec_words.proofs.OneCall.{in_range_once, number}
use Rattle.ec_shown.specs.Spelling.{IsAbove}
use Rattle.ec_shown.specs.Rows.{Rises, SpellsList}
use Rattle.ec_words.proofs.Misfits.{one_behind}

rises_down : (last op : ℕ) (w : Word) → IsAbove last w op → (ws : List Word) (ops : List ℕ) → Rises last (w ∷ ws) ops → (more : List ℕ) × Rises op ws more
rises_down last op w p ws [] g = absurd g
rises_down last op w p ws (o ∷ ops) g = (ops, subst (λ n. Rises n ws ops) (in_range_once (last + 1) (2 ^ 64 - 1) (omega arith) w o op g.0 p) g.1)

rises_none : (last : ℕ) (w : Word) → ((op : ℕ) → IsAbove last w op → ⊥) → (rest : List Word) (ops : List ℕ) → Rises last (w ∷ rest) ops → ⊥
rises_none last w not rest [] g = g
rises_none last w not rest (o ∷ ops) g = not o g.0

-- a first word that isn't above
pub rises_lacks : (last : ℕ) (ws : List Word) (e : Misfit) → (ws ≡ [] → ⊥) → Lacks (IsAbove last) ws e → IsMisfit (Rises last) ws e
rises_lacks last ws misfit.NoMemory some l = tt
rises_lacks last [] (misfit.Unfit n) some l = absurd (some refl)
rises_lacks last (w ∷ ws) (misfit.Unfit n) some l = (0, (unfit_first (Rises last) w ws ([], ([], refl)) (rises_none last w (λ op p. l.1 w ws op refl p)), l.0))

-- What was read of a list, first this operation, and what is left to be read: as the rest goes on above the last one, so does the whole.
pub record Read (first : ℕ) (ws : List Word) (ops : List ℕ) (last : ℕ) (rest : List Word) : Type 0 where
  pub mid : List ℕ
  pub all : ops ≡ first ∷ mid
  pub on : (more : List ℕ) → Rises last rest more → Rises first ws (mid ++ more)
  pub off : (e : Misfit) → IsMisfit (Rises last) rest e → IsMisfit (Rises first) ws e

pub read_none : (first : ℕ) (ws : List Word) (ops : List ℕ) → ops ≡ first ∷ [] → Read first ws ops first ws
read_none first ws ops is = record { mid = []; all = is; on = λ more g. g; off = λ e r. r }

pub read_one : (first : ℕ) (ws : List Word) (ops : List ℕ) (last : ℕ) (rest : List Word) (w : Word) (behind : List Word) (op : ℕ) (new : List ℕ) → Read first ws ops last rest → rest ≡ w ∷ behind → IsAbove last w op → new ≡ ops ++ op ∷ [] → Read first ws new op behind
read_one first ws ops last rest w behind op new r is p push = record {
  mid = r.mid ++ op ∷ [];
  all = push ∙ ap (λ l. l ++ op ∷ []) r.all;
  on = λ more g. subst (Rises first ws) (sym (append_assoc r.mid (op ∷ []) more)) (r.on (op ∷ more) (subst (λ d. Rises last d (op ∷ more)) (sym is) (p, g)));
  off = λ e m. r.off e (one_behind (Rises op) (Rises last) w (λ ops. op ∷ ops) (λ ws x g. (p, g)) (rises_down last op w p) rest behind e is m);
}

pub read_all : (first : ℕ) (ws : List Word) (ops : List ℕ) (last : ℕ) (rest : List Word) → Read first ws ops last rest → rest ≡ [] → (more : List ℕ) × ((ops ≡ first ∷ more) × Rises first ws more)
read_all first ws ops last rest r is = (r.mid, (r.all, subst (Rises first ws) (append-nil r.mid) (r.on [] (subst (λ d. Rises last d []) (sym is) refl))))

-- the whole list

pub begins_list : Begins SpellsList []
begins_list = (codes "-" ∷ [], ([], (refl, refl)))

list_nothing : (w : Word) → ((op : ℕ) → IsNumber w op → ⊥) → (w ≡ codes "-" → ⊥) → (rest : List Word) (ops : List ℕ) → SpellsList (w ∷ rest) ops → ⊥
list_nothing w not mark rest [] g = mark g.0
list_nothing w not mark rest (o ∷ ops) g = not o g.0

pub list_missing : (ws : List Word) → ws ≡ [] → IsMisfit SpellsList ws (misfit.Unfit 0)
list_missing ws is = subst (λ d. IsMisfit SpellsList d (misfit.Unfit 0)) (sym is) (0, (unfit_none SpellsList begins_list (λ x g. g), refl))

pub list_stop : (ws : List Word) (w : Word) (rest : List Word) (n : ℕ) → ws ≡ w ∷ rest → n ≡ joined_len ws → ((op : ℕ) → IsNumber w op → ⊥) → (w ≡ codes "-" → ⊥) → IsMisfit SpellsList ws (misfit.Unfit n)
list_stop ws w rest n is len not mark = (0, (subst (λ d. FirstUnfit SpellsList d 0) (sym is) (unfit_first SpellsList w rest begins_list (list_nothing w not mark)), len))

mark_down : (w : Word) → ((op : ℕ) → IsNumber w op → ⊥) → (ws : List Word) (ops : List ℕ) → SpellsList (w ∷ ws) ops → (u : Unit {0}) × End ws u
mark_down w not ws [] g = (tt, g.1)
mark_down w not ws (o ∷ ops) g = absurd (not o g.0)

pub behind_mark : (ws : List Word) (w : Word) (rest : List Word) (e : Misfit) → ws ≡ w ∷ rest → ((op : ℕ) → IsNumber w op → ⊥) → w ≡ codes "-" → IsMisfit End rest e → IsMisfit SpellsList ws e
behind_mark ws w rest e is not mark r = one_behind End SpellsList w (λ u. []) (λ ws x g. (mark, g)) (mark_down w not) ws rest e is r

number_down : (w : Word) (op : ℕ) → IsNumber w op → (ws : List Word) (ops : List ℕ) → SpellsList (w ∷ ws) ops → (more : List ℕ) × Rises op ws more
number_down w op p ws [] g = ([], subst (λ d. Rises op d []) (sym g.1) refl)
number_down w op p ws (o ∷ ops) g = (ops, subst (λ n. Rises n ws ops) (number w o op g.0 p) g.1)

pub behind_number : (ws : List Word) (w : Word) (rest : List Word) (op : ℕ) (e : Misfit) → ws ≡ w ∷ rest → IsNumber w op → IsMisfit (Rises op) rest e → IsMisfit SpellsList ws e
behind_number ws w rest op e is p r = one_behind (Rises op) SpellsList w (λ ops. op ∷ ops) (λ ws x g. (p, g)) (number_down w op p) ws rest e is r

pub list_none : (ws : List Word) (w : Word) (rest : List Word) (ops : List ℕ) → ws ≡ w ∷ rest → w ≡ codes "-" → rest ≡ [] → ops ≡ [] → SpellsList ws ops
list_none ws w rest ops is mark e empty = subst (λ d. SpellsList d ops) (sym is) (subst (SpellsList (w ∷ rest)) (sym empty) (mark, e))

pub list_some : (ws : List Word) (w : Word) (rest : List Word) (op : ℕ) (more ops : List ℕ) → ws ≡ w ∷ rest → IsNumber w op → ops ≡ op ∷ more → Rises op rest more → SpellsList ws ops
list_some ws w rest op more ops is p all g = subst (λ d. SpellsList d ops) (sym is) (subst (SpellsList (w ∷ rest)) (sym all) (p, g))
