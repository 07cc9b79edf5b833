-- Operations that were issued behind what was asked last.
use Rattle.std.proofs.Common.{◌≡◌, refl, sym, ap, subst, ◌∙◌, arith, ◌≤◌, ◌<◌, ◌+◌, ℕ, zero, suc, T, Bool, true, false, ◌&&◌, ◌||◌, ◌==◌, List, [], ◌∷◌, ◌++◌, length, take, drop, get_or, length-append}
use Rattle.std.specs.List.{list_all, list_any}
use Rattle.std.proofs.lemmas.Bool.{false≢true}
use Rattle.std.proofs.lemmas.List.{take-append-drop, drop_all}
use Rattle.ec_volume.specs.Update.{member}
use Rattle.ec_pending.specs.declared.issue.Issue.{Issue}
use Rattle.ec_pending.specs.declared.note.Note.{Note}
use Rattle.ec_pending.specs.declared.note.Note.TheVariants as note
use Rattle.ec_pending.specs.Pending.{numbers_in}
use Rattle.ec_pending.specs.Deferred.{behind_notes, next_of, is_issue, asks_nothing, AreLate}
use Rattle.ec_base.proofs.Bools.{or_true}

-- one from a place on passes the test
pub any-behind : (p : Note → Bool) (ns : List Note) (late at : ℕ) (d : Note) → late ≤ at → at < length ns → p (get_or ns at d) ≡ true → list_any p (drop late ns) ≡ true
any-behind p [] late at d l m e = absurd (omega (arith, m))
any-behind p (n ∷ ns) zero zero d l m e = ap (λ b. b || list_any p ns) e
any-behind p (n ∷ ns) zero (suc at) d l m e = ap (λ b. p n || b) (any-behind p ns zero at d (omega arith) (omega (arith, m)) e) ∙ or_true (p n)
any-behind p (n ∷ ns) (suc late) zero d l m e = absurd (omega (arith, l))
any-behind p (n ∷ ns) (suc late) (suc at) d l m e = any-behind p ns late at d (omega (arith, l)) (omega (arith, m)) e

last-in : (op : ℕ) (is : List Issue) (i : Issue) → (op == i.number) ≡ true → member op (numbers_in (is ++ i ∷ [])) ≡ true
last-in op [] i e = ap (λ b. b || false) e
last-in op (j ∷ is) i e = ap (λ b. (op == j.number) || b) (last-in op is i e) ∙ or_true (op == j.number)

either : (b m n : Bool) → (b || m) ≡ true → (m ≡ true → n ≡ true) → (b || n) ≡ true
either true m n h f = refl
either false m n h f = f h

more-in : (op : ℕ) (is : List Issue) (i : Issue) → member op (numbers_in is) ≡ true → member op (numbers_in (is ++ i ∷ [])) ≡ true
more-in op [] i h = absurd (false≢true h)
more-in op (j ∷ is) i h = either (op == j.number) (member op (numbers_in is)) (member op (numbers_in (is ++ i ∷ []))) h (more-in op is i)

stays : (op : ℕ) (ns : List Note) (is : List Issue) → T (list_all asks_nothing ns) → member op (numbers_in is) ≡ true → member op (numbers_in (behind_notes ns is)) ≡ true
stays op [] is a h = h
stays op (note.Issue n p u ∷ ns) is a h = stays op ns (next_of (note.Issue n p u) is) a (more-in op is (record { number = n; place = p; update = u.value }) h)
stays op (note.Cover c ∷ ns) is a h = absurd a

found : (op : ℕ) (ns : List Note) (is : List Issue) → T (list_all asks_nothing ns) → list_any (is_issue op) ns ≡ true → member op (numbers_in (behind_notes ns is)) ≡ true
found op [] is a f = absurd (false≢true f)
found op (note.Issue n p u ∷ ns) is a f = go (op == n) refl f (found op ns (next_of (note.Issue n p u) is) a)
  where
    one : Issue
    one = record { number = n; place = p; update = u.value }

    go : (b : Bool) → (op == n) ≡ b → (b || list_any (is_issue op) ns) ≡ true → (list_any (is_issue op) ns ≡ true → member op (numbers_in (behind_notes ns (is ++ one ∷ []))) ≡ true) → member op (numbers_in (behind_notes ns (is ++ one ∷ []))) ≡ true
    go true e f r = stays op ns (is ++ one ∷ []) a (last-in op is one e)
    go false e f r = r f
found op (note.Cover c ∷ ns) is a f = absurd a

behind-append : (ns ms : List Note) (is : List Issue) → behind_notes (ns ++ ms) is ≡ behind_notes ms (behind_notes ns is)
behind-append [] ms is = refl
behind-append (n ∷ ns) ms is = behind-append ns ms (next_of n is)

-- they are pending
pub late-pending : (op late : ℕ) (ns : List Note) (is : List Issue) → AreLate late ns → list_any (is_issue op) (drop late ns) ≡ true → member op (numbers_in (behind_notes ns is)) ≡ true
late-pending op late ns is h f =
    ap (λ ms. member op (numbers_in (behind_notes ms is))) (sym (take-append-drop late ns))
    ∙ ap (λ js. member op (numbers_in js)) (behind-append (take late ns) (drop late ns) is)
    ∙ found op (drop late ns) (behind_notes (take late ns) is) h.issues f

both : (b c d : Bool) → T (b && c) → (T c → T d) → T (b && d)
both true c d t f = f t
both false c d t f = t

all-more : (ns : List Note) (n : Note) → T (list_all asks_nothing ns) → asks_nothing n ≡ true → T (list_all asks_nothing (ns ++ n ∷ []))
all-more [] n t e = subst (λ b. T (b && true)) (sym e) tt
all-more (m ∷ ns) n t e = both (asks_nothing m) (list_all asks_nothing ns) (list_all asks_nothing (ns ++ n ∷ [])) t (λ u. all-more ns n u e)

all-behind : (late : ℕ) (ns : List Note) (n : Note) → late ≤ length ns → T (list_all asks_nothing (drop late ns)) → asks_nothing n ≡ true → T (list_all asks_nothing (drop late (ns ++ n ∷ [])))
all-behind zero ns n l t e = all-more ns n t e
all-behind (suc late) [] n l t e = absurd (omega (arith, l))
all-behind (suc late) (m ∷ ns) n l t e = all-behind late ns n (omega (arith, l)) t e

pub late-none : AreLate 0 []
late-none = record { within = omega arith; issues = tt }

pub late-more : (late : ℕ) (ns : List Note) (n : Note) → asks_nothing n ≡ true → AreLate late ns → AreLate late (ns ++ n ∷ [])
late-more late ns n e h =
    let long : length (ns ++ n ∷ []) ≡ length ns + 1 = length-append ns (n ∷ []) in
    record { within = omega (arith, long, h.within); issues = all-behind late ns n h.within h.issues e }

-- all are above the end
pub late-end : (late : ℕ) (ns : List Note) → late ≡ length ns → AreLate late ns
late-end late ns e = record { within = omega (arith, e); issues = subst (λ ms. T (list_all asks_nothing ms)) (sym (drop_all late ns (omega (arith, e)))) tt }
