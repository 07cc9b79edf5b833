-- Steps behind a list, and the parts of it.
use Rattle.std.proofs.Common.{◌≡◌, ℕ, ◌+◌, ◌≤◌, Bool, true, false, cond, List, [], ◌∷◌, ◌++◌, length, Option, Some, None, sym, refl, ap, ◌∙◌, subst, arith, eq-eqb, append-nil, length-append}
use Rattle.std.specs.Prelude.{if◌then◌else◌, ◌||◌}
use mathlib.Core.List.{IsPrefix}
use Rattle.ec_lock.specs.Steps.{is_number, of}
use Rattle.ec_link.specs.Links.{Heard, added}
use Rattle.ec_link.specs.LinkAnswers.{failed}
use Rattle.ec_link.specs.NetAnswers.{IsEmpty}
use Rattle.ec_outs.proofs.Told.{added-added}
use Rattle.ec_clerknode.specs.declared.step.Step.{Step}
use Rattle.ec_clerknode.specs.Run.{heard_of, heard_by}
use Rattle.ec_clerknode.specs.RunEnds.{net_of, nets, Came}
use Rattle.ec_clerknode.specs.Parts.{is_linked, parts, onto}
use Rattle.ec_clerknode.specs.PresentLink.{has_link, part, IsBase, Over, CameOver, Counted, count_before, IsLinker, LinksBy}
use Rattle.ec_clerknode.specs.Turns.{number_of}
use Rattle.ec_link.specs.Happenings.{each}
use Rattle.ec_lock.proofs.StepsLemmas.{of-append}
use Rattle.ec_link.proofs.HappeningsLemmas.{each-push}
use Rattle.ec_base.proofs.Bools.{or_true}

or_false : (a b : Bool) → (a || b) ≡ false → b ≡ false
or_false true b e = absurd (cc e)
or_false false b e = e

-- Where no exchange stands behind them.

pub part_whole : (xs : List Step) → has_link xs ≡ false → part xs ≡ xs
part_whole [] e = refl
part_whole (x ∷ xs) e = ap (λ b. if b then part xs else x ∷ xs) (or_false (is_linked x.deed) (has_link xs) e)

pub has_more : (xs more : List Step) → has_link more ≡ false → has_link (xs ++ more) ≡ has_link xs
has_more [] more e = e
has_more (x ∷ xs) more e = ap (λ b. is_linked x.deed || b) (has_more xs more e)

pub part_more : (xs more : List Step) → has_link more ≡ false → part (xs ++ more) ≡ part xs ++ more
part_more [] more e = part_whole more e
part_more (x ∷ xs) more e = ap (λ b. if b then part (xs ++ more) else x ∷ (xs ++ more)) (has_more xs more e) ∙ on (has_link xs) (part_more xs more e) where
  on : (b : Bool) → part (xs ++ more) ≡ part xs ++ more → (if b then part (xs ++ more) else x ∷ (xs ++ more)) ≡ (if b then part xs else x ∷ xs) ++ more
  on true h = h
  on false h = refl

-- An exchange behind them.

has_new : (xs : List Step) (s : Step) → is_linked s.deed ≡ true → has_link (xs ++ s ∷ []) ≡ true
has_new [] s e = ap (λ b. b || false) e
has_new (x ∷ xs) s e = ap (λ b. is_linked x.deed || b) (has_new xs s e) ∙ or_true (is_linked x.deed)

pub part_new : (xs : List Step) (s : Step) → is_linked s.deed ≡ true → part (xs ++ s ∷ []) ≡ s ∷ []
part_new [] s e = refl
part_new (x ∷ xs) s e = ap (λ b. if b then part (xs ++ s ∷ []) else x ∷ (xs ++ s ∷ [])) (has_new xs s e) ∙ part_new xs s e

-- What the present link tells, with one step more.

one_alone : (s : Step) → is_linked s.deed ≡ false → has_link (s ∷ []) ≡ false
one_alone s e = ap (λ b. b || false) e

base_push : {A : Type 0} (first base : Option (List A)) (xs : List Step) (s : Step) → is_linked s.deed ≡ false → IsBase (has_link xs) first base → IsBase (has_link (xs ++ s ∷ [])) first base
base_push first base xs s e b = subst (λ h. IsBase h first base) (sym (has_more xs (s ∷ []) (one_alone s e))) b

each_part : {A : Type 0} (by : Step → List A) (xs : List Step) (s : Step) → is_linked s.deed ≡ false → each by (part (xs ++ s ∷ [])) ≡ each by (part xs) ++ by s
each_part by xs s e = ap (each by) (part_more xs (s ∷ []) (one_alone s e)) ∙ each-push by (part xs) s

pub over_push : {A : Type 0} (by : Step → List A) (first now new : Option (List A)) (xs : List Step) (s : Step) → is_linked s.deed ≡ false → Over by first xs now → new ≡ added now (by s) → Over by first (xs ++ s ∷ []) new
over_push by first now new xs s e o n = (o.0, base_push first o.0 xs s e o.1, n ∙ (ap (λ t. added t (by s)) o.2 ∙ (added-added o.0 (each by (part xs)) (by s) ∙ ap (added o.0) (sym (each_part by xs s e)))))

pub over_new : {A : Type 0} (by : Step → List A) (first base new : Option (List A)) (xs : List Step) (s : Step) → is_linked s.deed ≡ true → IsEmpty base → new ≡ added base (by s) → Over by first (xs ++ s ∷ []) new
over_new by first base new xs s e none n = (base, subst (λ h. IsBase h first base) (sym (has_new xs s e)) none, n ∙ ap (added base) (sym (ap (each by) (part_new xs s e) ∙ append-nil (by s))))

pub came_over : (first now : Option (List Heard)) (xs : List Step) → Over (λ s. heard_of s.deed) first xs now → CameOver first xs now
came_over first now xs o = (o.0, o.1, ([], omega arith, o.2 ∙ ap (added o.0) (sym (append-nil (heard_by (part xs))))))

-- memory was wanting for what the link gave last
pub came_push : (first now new : Option (List Heard)) (xs : List Step) (s : Step) → is_linked s.deed ≡ false → heard_of s.deed ≡ [] → Over (λ s. heard_of s.deed) first xs now → Came now [] new → CameOver first (xs ++ s ∷ []) new
came_push first now new xs s e none o c = (
  o.0,
  base_push first o.0 xs s e o.1,
  (
    c.0,
    c.1,
    c.2 ∙ (ap (λ t. added t c.0) o.2 ∙ (added-added o.0 (heard_by (part xs)) c.0
        ∙ ap (λ l. added o.0 (l ++ c.0)) (sym (each_part (λ (s : Step). heard_of s.deed) xs s e ∙ (ap (λ l. heard_by (part xs) ++ l) none ∙ append-nil (heard_by (part xs))))))),
  ),
)

nets_push : (xs : List Step) (s : Step) → nets (xs ++ s ∷ []) ≡ nets xs + (net_of s.deed + failed s.end)
nets_push [] s = omega arith
nets_push (x ∷ xs) s = omega (arith, nets_push xs s)

pub counted_push : (first now new : ℕ) (xs : List Step) (s : Step) → is_linked s.deed ≡ false → Counted first xs now → (net_of s.deed + failed s.end) + now ≤ new → Counted first (xs ++ s ∷ []) new
counted_push first now new xs s e c l = omega (arith, ap nets (part_more xs (s ∷ []) (one_alone s e)), nets_push (part xs) s, ap (λ h. count_before h first) (has_more xs (s ∷ []) (one_alone s e)))

pub counted_new : (first new : ℕ) (xs : List Step) (s : Step) → is_linked s.deed ≡ true → net_of s.deed + failed s.end ≤ new → Counted first (xs ++ s ∷ []) new
counted_new first new xs s e l = omega (arith, ap nets (part_new xs s e), ap (λ h. count_before h first) (has_new xs s e))

pub links_push : (linker : Option ℕ) (xs : List Step) (s : Step) → LinksBy linker xs → (is_linked s.deed ≡ true → IsLinker linker s.pass) → LinksBy linker (xs ++ s ∷ [])
links_push linker [] s h l = (l, tt)
links_push linker (x ∷ xs) s h l = (h.0, links_push linker xs s h.1 l)

pub no_links : (linker : Option ℕ) (s : Step) → is_linked s.deed ≡ false → is_linked s.deed ≡ true → IsLinker linker s.pass
no_links linker s e linked = absurd (cc (sym e ∙ linked))

-- Where no link is exchanged, there is one part.

pub none_linked : (xs : List Step) → LinksBy None xs → has_link xs ≡ false
none_linked [] h = refl
none_linked (x ∷ xs) h = on (is_linked x.deed) refl (none_linked xs h.1) where
  on : (b : Bool) → is_linked x.deed ≡ b → has_link xs ≡ false → (is_linked x.deed || has_link xs) ≡ false
  on true e none = absurd (h.0 e)
  on false e none = ap (λ b. b || has_link xs) e ∙ none

pub over_alone : {A : Type 0} (by : Step → List A) (first now : Option (List A)) (xs : List Step) → has_link xs ≡ false → Over by first xs now → now ≡ added first (each by xs)
over_alone by first now xs e o =
    let base : o.0 ≡ first = subst (λ b. IsBase b first o.0) e o.1 in
    o.2 ∙ (ap (λ l. added o.0 (each by l)) (part_whole xs e) ∙ ap (λ t. added t (each by xs)) base)

pub came_alone : (first now : Option (List Heard)) (xs : List Step) → has_link xs ≡ false → CameOver first xs now → Came first (heard_by xs) now
came_alone first now xs e o =
    let base : o.0 ≡ first = subst (λ b. IsBase b first o.0) e o.1 in
    subst (λ t. Came t (heard_by xs) now) base (subst (λ l. Came o.0 (heard_by l) now) (part_whole xs e) o.2)

pub counted_alone : (first now : ℕ) (xs : List Step) → has_link xs ≡ false → Counted first xs now → nets xs + first ≤ now
counted_alone first now xs e c = omega (arith, ap nets (part_whole xs e), ap (λ h. count_before h first) e)

-- Where one pass alone exchanges links, and made no step, none was exchanged.

none_of : (b : Bool) (x : Step) (xs : List Step) → cond b (x ∷ xs) xs ≡ [] → xs ≡ []
none_of true x xs e = absurd (cc e)
none_of false x xs e = e

some_of : (x : Step) (xs : List Step) → x ∷ xs ≡ [] → ⊥
some_of x xs e = cc e

unlinked : (n : ℕ) (xs : List Step) → LinksBy (Some n) xs → of number_of n xs ≡ [] → has_link xs ≡ false
unlinked n [] h e = refl
unlinked n (x ∷ xs) h e = on (is_linked x.deed) refl (unlinked n xs h.1 (none_of (is_number n (number_of x)) x (of number_of n xs) e)) where
  on : (b : Bool) → is_linked x.deed ≡ b → has_link xs ≡ false → (is_linked x.deed || has_link xs) ≡ false
  on true l none = absurd (some_of x (of number_of n xs) (sym (ap (λ b. cond b (x ∷ of number_of n xs) (of number_of n xs)) (eq-eqb x.pass n (h.0 l))) ∙ e))
  on false l none = ap (λ b. b || has_link xs) l ∙ none

links_right : (linker : Option ℕ) (xs ys : List Step) → LinksBy linker (xs ++ ys) → LinksBy linker ys
links_right linker [] ys h = h
links_right linker (x ∷ xs) ys h = links_right linker xs ys h.1

no_more : (xs : List Step) → length xs ≡ 0 → xs ≡ []
no_more [] e = refl
no_more (x ∷ xs) e = absurd (omega arith)

cancel : (xs ys : List Step) → xs ≡ xs ++ ys → ys ≡ []
cancel xs ys e = no_more ys (omega (arith, ap length e, length-append xs ys))

-- the list went on without an exchange, since its pass made no step
pub went_on : (n : ℕ) (xs zs : List Step) (p : IsPrefix xs zs) → of number_of n xs ≡ of number_of n zs → LinksBy (Some n) zs → has_link p.0 ≡ false
went_on n xs zs p own h = unlinked n p.0 (links_right (Some n) xs p.0 (subst (LinksBy (Some n)) (sym p.1) h)) (cancel (of number_of n xs) (of number_of n p.0) (own ∙ (ap (of number_of n) (sym p.1) ∙ of-append number_of n xs p.0)))

-- All parts.

pub some_parts : (xs : List Step) → (p : List Step) × (ps : List (List Step)) × (parts xs ≡ p ∷ ps)
some_parts [] = ([], [], refl)
some_parts (x ∷ xs) = let r = some_parts xs in on (is_linked x.deed) r.0 r.1 r.2 where
  on : (b : Bool) (p : List Step) (ps : List (List Step)) → parts xs ≡ p ∷ ps → (q : List Step) × (qs : List (List Step)) × (onto x b (parts xs) ≡ q ∷ qs)
  on true p ps e = ([], (x ∷ p) ∷ ps, ap (onto x true) e)
  on false p ps e = (x ∷ p, ps, ap (onto x false) e)

-- the last part goes on
abbrev pub last_on : List Step → List Step → List (List Step) → List (List Step)
last_on more p [] = (p ++ more) ∷ []
last_on more p (q ∷ qs) = p ∷ last_on more q qs

abbrev pub stretch : List Step → List (List Step) → List (List Step)
stretch more [] = []
stretch more (p ∷ ps) = last_on more p ps

parts_alone : (xs : List Step) → has_link xs ≡ false → parts xs ≡ xs ∷ []
parts_alone [] e = refl
parts_alone (x ∷ xs) e = on (is_linked x.deed) refl (parts_alone xs (or_false (is_linked x.deed) (has_link xs) e)) where
  on : (b : Bool) → is_linked x.deed ≡ b → parts xs ≡ xs ∷ [] → onto x (is_linked x.deed) (parts xs) ≡ (x ∷ xs) ∷ []
  on true l one = absurd (cc (sym e ∙ ap (λ b. b || has_link xs) l))
  on false l one = ap (λ b. onto x b (parts xs)) l ∙ ap (onto x false) one

onto_stretch : (x : Step) (b : Bool) (more p : List Step) (ps : List (List Step)) → onto x b (stretch more (p ∷ ps)) ≡ stretch more (onto x b (p ∷ ps))
onto_stretch x true more p [] = refl
onto_stretch x true more p (q ∷ qs) = refl
onto_stretch x false more p [] = refl
onto_stretch x false more p (q ∷ qs) = refl

parts_stretch : (xs more : List Step) → has_link more ≡ false → parts (xs ++ more) ≡ stretch more (parts xs)
parts_stretch [] more e = parts_alone more e
parts_stretch (x ∷ xs) more e =
    let r = some_parts xs in
    let b = is_linked x.deed in
    ap (onto x b) (parts_stretch xs more e ∙ ap (stretch more) r.2) ∙ (onto_stretch x b more r.0 r.1 ∙ ap (λ l. stretch more (onto x b l)) (sym r.2))

stretch_last : (over : List (List Step)) (p more : List Step) → stretch more (over ++ p ∷ []) ≡ over ++ (p ++ more) ∷ []
stretch_last [] p more = refl
stretch_last (o ∷ []) p more = refl
stretch_last (o ∷ q ∷ os) p more = ap (λ l. o ∷ l) (stretch_last (q ∷ os) p more)

-- the parts that have ended stay
pub parts_more : (xs more : List Step) (over : List (List Step)) → has_link more ≡ false → parts xs ≡ over ++ part xs ∷ [] → parts (xs ++ more) ≡ over ++ part (xs ++ more) ∷ []
parts_more xs more over e whole = parts_stretch xs more e ∙ (ap (stretch more) whole ∙ (stretch_last over (part xs) more ∙ ap (λ p. over ++ p ∷ []) (sym (part_more xs more e))))

pub parts_new : (xs : List Step) (s : Step) → is_linked s.deed ≡ true → parts (xs ++ s ∷ []) ≡ parts xs ++ (s ∷ []) ∷ []
parts_new [] s e = ap (λ b. onto s b ([] ∷ [])) e
parts_new (x ∷ xs) s e =
    let r = some_parts xs in
    let b = is_linked x.deed in
    ap (onto x b) (parts_new xs s e ∙ ap (λ l. l ++ (s ∷ []) ∷ []) r.2) ∙ (on b r.0 r.1 ∙ ap (λ l. onto x b l ++ (s ∷ []) ∷ []) (sym r.2)) where
      on : (b : Bool) (p : List Step) (ps : List (List Step)) → onto x b ((p ∷ ps) ++ (s ∷ []) ∷ []) ≡ onto x b (p ∷ ps) ++ (s ∷ []) ∷ []
      on true p ps = refl
      on false p ps = refl

-- whether there are two
abbrev pub has_two : List (List Step) → Bool
has_two [] = false
has_two (p ∷ []) = false
has_two (p ∷ q ∷ qs) = true

pub has_parts : (xs : List Step) → has_link xs ≡ has_two (parts xs)
has_parts [] = refl
has_parts (x ∷ xs) =
    let r = some_parts xs in
    let b = is_linked x.deed in
    ap (λ h. b || h) (has_parts xs ∙ ap has_two r.2) ∙ (on b r.0 r.1 ∙ ap (λ l. has_two (onto x b l)) (sym r.2)) where
      on : (b : Bool) (p : List Step) (ps : List (List Step)) → (b || has_two (p ∷ ps)) ≡ has_two (onto x b (p ∷ ps))
      on true p ps = refl
      on false p [] = refl
      on false p (q ∷ qs) = refl
