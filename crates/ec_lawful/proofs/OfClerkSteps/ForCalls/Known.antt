-- What one more line leaves of the entries that a start knows, and of those up to a place.
use Rattle.std.proofs.Common.{◌≡◌, refl, sym, ap, subst, ◌∙◌, arith, ◌≤◌, ◌+◌, ℕ, T, Bool, true, false, not, ◌==◌, ◌&&◌, ◌||◌, cond, List, [], ◌∷◌, ◌++◌, length, Option, Some, None, is_some, is_none, append-nil, append_assoc}
use Rattle.std.specs.List.{filter, list_any, list_all}
use Rattle.ec_volume.specs.Update.{member}
use Rattle.std.proofs.lemmas.Bool.{cond_both, cond-true, cond-false, and_parts, eqb-true, true≢false}
use Rattle.std.proofs.lemmas.List.Folds.{list_any-append}
use Rattle.ec_volume.specs.Image.{is_id}
use Rattle.ec_history.specs.History.{History, Each, same_start, is_entry_of}
use Rattle.ec_history.specs.Placing.{MayFollow, ArePlaceable, watch, watch_next, begun, ended, owner, is_running, before_line, is_numbered, place}
use Rattle.ec_history.specs.declared.watch.Watch.{Watch}
use Rattle.ec_history.specs.declared.entry.Entry.{Entry}
use Rattle.ec_history.specs.declared.entry.Entry.TheVariants as entry
use Rattle.ec_history.specs.declared.shown.Shown.{Shown}
use Rattle.ec_history.specs.declared.shown.Shown.TheVariants as show
use Rattle.ec_history.proofs.OfLaws.ForPlacing.Late.{place-ended, place-no_call}
use Rattle.ec_history.proofs.OfLaws.ForPlacing.More.{before_line-append, watch-step}
use Rattle.ec_history.proofs.OfLaws.ForPlacing.Numbers.{each-append}
use Rattle.ec_history.proofs.OfLaws.ForPlacing.Watching.{running-owner, running-told, sound}
use Rattle.ec_lawful.specs.OfClerkSteps.Calls.{LosesBelow, before_last, told_to}
use Rattle.ec_lawful.specs.OfClerkSteps.CallLaws.{is_quiet}
use Rattle.ec_base.specs.Options.{or_zero}
use Rattle.ec_base.proofs.Numbers.{same-self, differ}
use Rattle.ec_base.proofs.Options.{none_some}
use Rattle.ec_base.proofs.Bools.{and_parts-T, and-none}

-- The entries before the last one of a start.

module _ (c b : ℕ) where
  abbrev is_its : ℕ × Entry → Bool
  is_its e = is_entry_of c b e.1

  -- an entry of another start stands behind
  pub other-last : (P : ℕ × Entry → Type 0) (h : History) (e : ℕ × Entry) → is_its e ≡ false → P e → Each P (before_last c b h) → Each P (before_last c b (h ++ e ∷ []))
  other-last P [] e n p a = subst (λ z. Each P (elim (z && true) as (λ y. History) [ true ↦ [] | false ↦ e ∷ [] ])) (sym n) (p, tt)
  other-last P (x ∷ h) e n p a = by (is_its x) (list_any is_its h) (list_any is_its (h ++ e ∷ [])) (list_any-append is_its h (e ∷ []) ∙ ap (λ z. list_any is_its h || (z || false)) n) a (other-last P h e n p)
    where
      by : (y z o : Bool) → o ≡ (z || false) → Each P (elim (y && not z) as (λ q. History) [ true ↦ [] | false ↦ x ∷ before_last c b h ]) → (Each P (before_last c b h) → Each P (before_last c b (h ++ e ∷ [])))
          → Each P (elim (y && not o) as (λ w. History) [ true ↦ [] | false ↦ x ∷ before_last c b (h ++ e ∷ []) ])
      by true true true i r f = (r.0, f r.1)
      by true true false i r f = absurd (true≢false (sym i))
      by true false true i r f = absurd (true≢false i)
      by true false false i r f = tt
      by false z o i r f = (r.0, f r.1)

  -- its last one stands here
  pub last-is : (h rest : History) (e : ℕ × Entry) → is_its e ≡ true → list_any is_its rest ≡ false → before_last c b (h ++ e ∷ rest) ≡ h
  last-is [] rest e i n = ap (λ z. elim (z && not (list_any is_its rest)) as (λ y. History) [ true ↦ [] | false ↦ e ∷ before_last c b rest ]) i ∙ ap (λ z. elim (not z) as (λ y. History) [ true ↦ [] | false ↦ e ∷ before_last c b rest ]) n
  last-is (x ∷ h) rest e i n =
      ap (λ z. elim (is_its x && not z) as (λ y. History) [ true ↦ [] | false ↦ x ∷ before_last c b (h ++ e ∷ rest) ]) (list_any-append is_its h (e ∷ rest) ∙ ap (λ z. list_any is_its h || (z || list_any is_its rest)) i ∙ or_true (list_any is_its h))
      ∙ none (is_its x)
      ∙ ap (λ z. x ∷ z) (last-is h rest e i n)
    where
      or_true : (z : Bool) → (z || true) ≡ true
      or_true true = refl
      or_true false = refl

      none : (z : Bool) → elim (z && false) as (λ y. History) [ true ↦ [] | false ↦ x ∷ before_last c b (h ++ e ∷ rest) ] ≡ x ∷ before_last c b (h ++ e ∷ rest)
      none true = refl
      none false = refl

-- Lines that are no calls.

quiet-unnumbered : (l : ℕ) (s : Shown) → T (is_quiet s) → is_numbered l s ≡ false
quiet-unnumbered l (show.Waits k c cl) q = absurd q
quiet-unnumbered l (show.Answered k c cl a op) q = absurd q
quiet-unnumbered l (show.Told c ns) q = absurd q
quiet-unnumbered l (show.Crashed c) q = absurd q
quiet-unnumbered l s q = refl

-- what a line adds is no operation
quiet-entries : (P : ℕ × Entry → Type 0) → ((p d b : ℕ) (ns : List ℕ) → P (p, entry.Loss d b ns)) → (ss : List Shown) (s : Shown) → T (is_quiet s) → Each P (place ss) → Each P (place (ss ++ s ∷ []))
quiet-entries P loss ss (show.Waits k c cl) q h = absurd q
quiet-entries P loss ss (show.Answered k c cl a op) q h = absurd q
quiet-entries P loss ss (show.Told c ns) q h = absurd q
quiet-entries P loss ss (show.Crashed c) q h = absurd q
quiet-entries P loss ss (show.Ended c ns) q h = subst (Each P) (sym (place-ended ss c ns)) (each-append P (place ss) _ h (loss (length ss + 1) c (or_zero (owner (watch c ss))) ns, tt))
quiet-entries P loss ss (show.Durable c ns) q h = subst (Each P) (sym (place-no_call ss (show.Durable c ns) (λ d. refl) ∙ append-nil (place ss))) h
quiet-entries P loss ss (show.Unseen c) q h = subst (Each P) (sym (place-no_call ss (show.Unseen c) (λ d. refl) ∙ append-nil (place ss))) h
quiet-entries P loss ss show.Stopped q h = subst (Each P) (sym (place-no_call ss show.Stopped (λ d. refl) ∙ append-nil (place ss))) h
quiet-entries P loss ss show.Started q h = subst (Each P) (sym (place-no_call ss show.Started (λ d. refl) ∙ append-nil (place ss))) h
quiet-entries P loss ss show.Nothing q h = subst (Each P) (sym (place-no_call ss show.Nothing (λ d. refl) ∙ append-nil (place ss))) h
quiet-entries P loss ss show.Unsettled q h = subst (Each P) (sym (place-no_call ss show.Unsettled (λ d. refl) ∙ append-nil (place ss))) h
quiet-entries P loss ss (show.Bad k n) q h = subst (Each P) (sym (place-no_call ss (show.Bad k n) (λ d. refl) ∙ append-nil (place ss))) h
quiet-entries P loss ss (show.DiskBad n) q h = subst (Each P) (sym (place-no_call ss (show.DiskBad n) (λ d. refl) ∙ append-nil (place ss))) h
quiet-entries P loss ss (show.Limit x n) q h = subst (Each P) (sym (place-no_call ss (show.Limit x n) (λ d. refl) ∙ append-nil (place ss))) h
quiet-entries P loss ss (show.Spent x) q h = subst (Each P) (sym (place-no_call ss (show.Spent x) (λ d. refl) ∙ append-nil (place ss))) h

-- What a start knows of its losses.

module _ (c sb first : ℕ) where
  abbrev pub Knows : List Shown → Type 0
  Knows ss = Each (LosesBelow c sb first) (told_to c sb (watch c ss).untold (place ss))

  -- a line that gives no entry and tells nothing
  still : (ss : List Shown) (s : Shown) → place (ss ++ s ∷ []) ≡ place ss → (watch c (ss ++ s ∷ [])).untold ≡ (watch c ss).untold → Knows ss → Knows (ss ++ s ∷ [])
  still ss s p u k = subst (λ h. Each (LosesBelow c sb first) (told_to c sb (watch c (ss ++ s ∷ [])).untold h)) (sym p) (subst (λ o. Each (LosesBelow c sb first) (told_to c sb o (place ss))) (sym u) k)

  -- a loss of another start
  pub loses-other : (p d b : ℕ) (ns : List ℕ) → same_start c sb d b ≡ false → LosesBelow c sb first (p, entry.Loss d b ns)
  loses-other p d b ns n t = absurd (subst T n t)

  -- an entry of another start, or a call of this one where nothing is untold
  pub knows-more : (o : Option (List ℕ)) (h : History) (e : ℕ × Entry) → is_entry_of c sb e.1 ≡ false → LosesBelow c sb first e → Each (LosesBelow c sb first) (told_to c sb o h) → Each (LosesBelow c sb first) (told_to c sb o (h ++ e ∷ []))
  knows-more None h e n l k = each-append (LosesBelow c sb first) h (e ∷ []) k (l, tt)
  knows-more (Some ns) h e n l k = other-last c sb (LosesBelow c sb first) h e n l k

  -- an end of a session of this clerk
  module _ (ss : List Shown) (ns : List ℕ) (may : MayFollow ss (show.Ended c ns)) (starts : (begun (watch c ss)).starts ≡ sb) (k : Knows ss) where
    abbrev w : Watch
    w = watch c ss

    abbrev now : List Shown
    now = ss ++ show.Ended c ns ∷ []

    abbrev loss : ℕ × Entry
    loss = (length ss + 1, entry.Loss c (or_zero (owner w)) ns)

    watched : watch c now ≡ ended w ns
    watched = watch-step c ss (show.Ended c ns) ∙ cond-true (c == c) (ended w ns) w (same-self c)

    -- the end of an earlier start leaves what is untold
    aside : same_start c sb c (or_zero (owner w)) ≡ false → (watch c now).untold ≡ w.untold → Knows now
    aside n u = subst (λ h. Each (LosesBelow c sb first) (told_to c sb (watch c now).untold h)) (sym (place-ended ss c ns))
        (subst (λ o. Each (LosesBelow c sb first) (told_to c sb o (place ss ++ loss ∷ []))) (sym u) (knows-more w.untold (place ss) loss n (loses-other (length ss + 1) c (or_zero (owner w)) ns n) k))

    -- its own end is its last entry, and nothing was untold before
    own : is_running w (owner w) ≡ true → Knows now
    own r = subst (λ h. Each (LosesBelow c sb first) (told_to c sb (watch c now).untold h)) (sym (place-ended ss c ns))
        (subst (λ o. Each (LosesBelow c sb first) (told_to c sb o (place ss ++ loss ∷ []))) (sym untold) (subst (Each (LosesBelow c sb first)) (sym (last-is c sb (place ss) [] loss its refl)) (subst (λ o. Each (LosesBelow c sb first) (told_to c sb o (place ss))) (running-told w (sound c ss) r) k)))
      where
        runs : w.running ≡ true
        runs = (and_parts w.running (is_id w.starts (owner w)) r).0

        number : or_zero (owner w) ≡ sb
        number = ap or_zero (running-owner w r) ∙ sym (ap (λ z. z.starts) (cond-true w.running w (record w { starts = w.starts + 1; running = true }) runs)) ∙ starts

        its : is_entry_of c sb loss.1 ≡ true
        its = ap (λ z. same_start c sb c z) number ∙ ap (λ z. z && (sb == sb)) (same-self c) ∙ same-self sb

        untold : (watch c now).untold ≡ Some ns
        untold = ap (λ z. z.untold) (watched ∙ cond-true (is_running w (owner w)) (record w { open_start = None; undurable = []; early = []; untold = Some ns }) (record w { open_start = None; undurable = [] }) r)

    earlier : is_running w (owner w) ≡ false → Knows now
    earlier r = aside apart untold
      where
        untold : (watch c now).untold ≡ w.untold
        untold = ap (λ z. z.untold) (watched ∙ cond-false (is_running w (owner w)) (record w { open_start = None; undurable = []; early = []; untold = Some ns }) (record w { open_start = None; undurable = [] }) r)

        apart : same_start c sb c (or_zero (owner w)) ≡ false
        apart = go (owner w) refl may.0
          where
            differs : (b : ℕ) → owner w ≡ Some b → (sb == b) ≡ false
            differs b o = by w.running refl
              where
                by : (x : Bool) → w.running ≡ x → (sb == b) ≡ false
                by true e =
                    let one : sb ≡ w.starts = sym starts ∙ ap (λ z. z.starts) (cond-true w.running w (record w { starts = w.starts + 1; running = true }) e) in
                    ap (λ z. z == b) one ∙ sym (ap (λ z. z && (w.starts == b)) e) ∙ sym (ap (λ z. w.running && is_id w.starts z) o) ∙ r
                by false e =
                    let one : sb ≡ w.starts + 1 = sym starts ∙ ap (λ z. z.starts) (cond-false w.running w (record w { starts = w.starts + 1; running = true }) e) in
                    let opened : w.open_start ≡ Some b = open-is w.open_start refl (sym (owner-is w.open_start refl e) ∙ o) in
                    not-same sb b one ((sound c ss).opened b opened).1
                  where
                    owner-is : (x : Option ℕ) → w.open_start ≡ x → w.running ≡ false → owner w ≡ elim x as (λ y. Option ℕ) [ Some a ↦ Some a | None ↦ None ]
                    owner-is (Some a) p q = ap (λ z. elim z as (λ y. Option ℕ) [ Some x ↦ Some x | None ↦ cond (w.running && is_none w.untold) (Some w.starts) None ]) p
                    owner-is None p q = ap (λ z. elim z as (λ y. Option ℕ) [ Some x ↦ Some x | None ↦ cond (w.running && is_none w.untold) (Some w.starts) None ]) p ∙ ap (λ z. cond (z && is_none w.untold) (Some w.starts) None) q

                    open-is : (x : Option ℕ) → w.open_start ≡ x → elim w.open_start as (λ y. Option ℕ) [ Some a ↦ Some a | None ↦ None ] ≡ Some b → w.open_start ≡ Some b
                    open-is (Some a) p q = p ∙ sym (ap (λ z. elim z as (λ y. Option ℕ) [ Some x ↦ Some x | None ↦ None ]) p) ∙ q
                    open-is None p q = absurd (none_some (sym (ap (λ z. elim z as (λ y. Option ℕ) [ Some x ↦ Some x | None ↦ None ]) p) ∙ q))

                    not-same : (m n : ℕ) → m ≡ w.starts + 1 → n ≤ w.starts → (m == n) ≡ false
                    not-same m n p l = differ m n (λ q. omega (arith, p, l, q))

            go : (o : Option ℕ) → owner w ≡ o → T (is_some o) → same_start c sb c (or_zero o) ≡ false
            go (Some b) o t = ap (λ z. (c == c) && z) (differs b o) ∙ and-none (c == c)
            go None o t = absurd t

  -- of any clerk
  knows-ended : (ss : List Shown) (d : ℕ) (ns : List ℕ) → MayFollow ss (show.Ended d ns) → (begun (watch c ss)).starts ≡ sb → Knows ss → Knows (ss ++ show.Ended d ns ∷ [])
  knows-ended ss d ns may starts k = go (c == d) refl
    where
      go : (x : Bool) → (c == d) ≡ x → Knows (ss ++ show.Ended d ns ∷ [])
      go true e = subst (λ z. Knows (ss ++ show.Ended z ns ∷ [])) (eqb-true c d e) (at (is_running (watch c ss) (owner (watch c ss))) refl)
        where
          may-own : MayFollow ss (show.Ended c ns)
          may-own = subst (λ z. MayFollow ss (show.Ended z ns)) (sym (eqb-true c d e)) may

          at : (x : Bool) → is_running (watch c ss) (owner (watch c ss)) ≡ x → Knows (ss ++ show.Ended c ns ∷ [])
          at true r = own ss ns may-own starts k r
          at false r = earlier ss ns may-own starts k r
      go false e =
          let n : same_start c sb d (or_zero (owner (watch d ss))) ≡ false = ap (λ z. z && (sb == or_zero (owner (watch d ss)))) e in
          let u : (watch c (ss ++ show.Ended d ns ∷ [])).untold ≡ (watch c ss).untold = ap (λ z. z.untold) (watch-step c ss (show.Ended d ns) ∙ cond-false (c == d) (ended (watch c ss) ns) (watch c ss) e) in
          subst (λ h. Each (LosesBelow c sb first) (told_to c sb (watch c (ss ++ show.Ended d ns ∷ [])).untold h)) (sym (place-ended ss d ns))
          (subst (λ o. Each (LosesBelow c sb first) (told_to c sb o (place ss ++ (length ss + 1, entry.Loss d (or_zero (owner (watch d ss))) ns) ∷ []))) (sym u)
          (knows-more (watch c ss).untold (place ss) (length ss + 1, entry.Loss d (or_zero (owner (watch d ss))) ns) n (loses-other (length ss + 1) d (or_zero (owner (watch d ss))) ns n) k))

  pub quiet-knows : (ss : List Shown) (s : Shown) → T (is_quiet s) → MayFollow ss s → (begun (watch c ss)).starts ≡ sb → Knows ss → Knows (ss ++ s ∷ [])
  quiet-knows ss (show.Waits l d cl) q may starts k = absurd q
  quiet-knows ss (show.Answered l d cl a op) q may starts k = absurd q
  quiet-knows ss (show.Told d ns) q may starts k = absurd q
  quiet-knows ss (show.Crashed d) q may starts k = absurd q
  quiet-knows ss (show.Ended d ns) q may starts k = knows-ended ss d ns may starts k
  quiet-knows ss (show.Durable d ns) q may starts k =
      still ss (show.Durable d ns) (place-no_call ss (show.Durable d ns) (λ d. refl) ∙ append-nil (place ss))
      (ap (λ z. z.untold) (watch-step c ss (show.Durable d ns)) ∙ cond_both (c == d) _ (watch c ss) (λ z. z.untold ≡ (watch c ss).untold) (λ e. refl) (λ e. refl)) k
  quiet-knows ss (show.Unseen d) q may starts k = still ss (show.Unseen d) (place-no_call ss (show.Unseen d) (λ d. refl) ∙ append-nil (place ss)) (ap (λ z. z.untold) (watch-step c ss (show.Unseen d))) k
  quiet-knows ss show.Stopped q may starts k = still ss show.Stopped (place-no_call ss show.Stopped (λ d. refl) ∙ append-nil (place ss)) (ap (λ z. z.untold) (watch-step c ss show.Stopped)) k
  quiet-knows ss show.Started q may starts k = still ss show.Started (place-no_call ss show.Started (λ d. refl) ∙ append-nil (place ss)) (ap (λ z. z.untold) (watch-step c ss show.Started)) k
  quiet-knows ss show.Nothing q may starts k = still ss show.Nothing (place-no_call ss show.Nothing (λ d. refl) ∙ append-nil (place ss)) (ap (λ z. z.untold) (watch-step c ss show.Nothing)) k
  quiet-knows ss show.Unsettled q may starts k = still ss show.Unsettled (place-no_call ss show.Unsettled (λ d. refl) ∙ append-nil (place ss)) (ap (λ z. z.untold) (watch-step c ss show.Unsettled)) k
  quiet-knows ss (show.Bad x n) q may starts k = still ss (show.Bad x n) (place-no_call ss (show.Bad x n) (λ d. refl) ∙ append-nil (place ss)) (ap (λ z. z.untold) (watch-step c ss (show.Bad x n))) k
  quiet-knows ss (show.DiskBad n) q may starts k = still ss (show.DiskBad n) (place-no_call ss (show.DiskBad n) (λ d. refl) ∙ append-nil (place ss)) (ap (λ z. z.untold) (watch-step c ss (show.DiskBad n))) k
  quiet-knows ss (show.Limit x n) q may starts k = still ss (show.Limit x n) (place-no_call ss (show.Limit x n) (λ d. refl) ∙ append-nil (place ss)) (ap (λ z. z.untold) (watch-step c ss (show.Limit x n))) k
  quiet-knows ss (show.Spent x) q may starts k = still ss (show.Spent x) (place-no_call ss (show.Spent x) (λ d. refl) ∙ append-nil (place ss)) (ap (λ z. z.untold) (watch-step c ss (show.Spent x))) k

-- a line of no call leaves how many starts the lines count
quiet-starts : (c : ℕ) (w : Watch) (s : Shown) → T (is_quiet s) → (begun (watch_next c w s)).starts ≡ (begun w).starts
quiet-starts c w (show.Waits l d cl) q = absurd q
quiet-starts c w (show.Answered l d cl a op) q = absurd q
quiet-starts c w (show.Told d ns) q = absurd q
quiet-starts c w (show.Crashed d) q = absurd q
quiet-starts c w (show.Durable d ns) q = cond_both (c == d) _ w (λ z. (begun z).starts ≡ (begun w).starts) (λ e. at w.running refl) (λ e. refl)
  where
    at : (x : Bool) → w.running ≡ x → (begun (record w { undurable = filter (λ n. not (member n ns)) w.undurable })).starts ≡ (begun w).starts
    at true r = ap (λ z. z.starts) (cond-true w.running (record w { undurable = filter (λ n. not (member n ns)) w.undurable }) _ r) ∙ sym (ap (λ z. z.starts) (cond-true w.running w _ r))
    at false r = ap (λ z. z.starts) (cond-false w.running (record w { undurable = filter (λ n. not (member n ns)) w.undurable }) _ r) ∙ sym (ap (λ z. z.starts) (cond-false w.running w _ r))
quiet-starts c w (show.Ended d ns) q = cond_both (c == d) (ended w ns) w (λ z. (begun z).starts ≡ (begun w).starts)
    (λ e. cond_both (is_running w (owner w)) (record w { open_start = None; undurable = []; early = []; untold = Some ns }) (record w { open_start = None; undurable = [] }) (λ z. (begun z).starts ≡ (begun w).starts) (λ r. at (record w { open_start = None; undurable = []; early = []; untold = Some ns }) refl refl w.running refl) (λ r. at (record w { open_start = None; undurable = [] }) refl refl w.running refl)) (λ e. refl)
  where
    at : (v : Watch) → v.running ≡ w.running → v.starts ≡ w.starts → (x : Bool) → w.running ≡ x → (begun v).starts ≡ (begun w).starts
    at v p n true r = ap (λ z. z.starts) (cond-true v.running v _ (p ∙ r)) ∙ n ∙ sym (ap (λ z. z.starts) (cond-true w.running w _ r))
    at v p n false r = ap (λ z. z.starts) (cond-false v.running v _ (p ∙ r)) ∙ ap (λ z. z + 1) n ∙ sym (ap (λ z. z.starts) (cond-false w.running w _ r))
quiet-starts c w s q = refl

-- Any such lines.

pub unnumbered : (l : ℕ) (ls : List Shown) → T (list_all is_quiet ls) → list_any (is_numbered l) ls ≡ false
unnumbered l [] q = refl
unnumbered l (s ∷ ls) q = let t = and_parts-T (is_quiet s) (list_all is_quiet ls) q in ap (λ z. z || list_any (is_numbered l) ls) (quiet-unnumbered l s t.0) ∙ unnumbered l ls t.1

pub entries-kept : (P : ℕ × Entry → Type 0) → ((p d b : ℕ) (ns : List ℕ) → P (p, entry.Loss d b ns)) → (ss ls : List Shown) → T (list_all is_quiet ls) → Each P (place ss) → Each P (place (ss ++ ls))
entries-kept P any ss [] q h = subst (λ z. Each P (place z)) (sym (append-nil ss)) h
entries-kept P any ss (s ∷ ls) q h = let t = and_parts-T (is_quiet s) (list_all is_quiet ls) q in subst (λ z. Each P (place z)) (append_assoc ss (s ∷ []) ls) (entries-kept P any (ss ++ s ∷ []) ls t.1 (quiet-entries P any ss s t.0 h))

pub starts-kept : (c : ℕ) (ss ls : List Shown) → T (list_all is_quiet ls) → (begun (watch c (ss ++ ls))).starts ≡ (begun (watch c ss)).starts
starts-kept c ss [] q = ap (λ z. (begun (watch c z)).starts) (append-nil ss)
starts-kept c ss (s ∷ ls) q =
    let t = and_parts-T (is_quiet s) (list_all is_quiet ls) q in
    ap (λ z. (begun (watch c z)).starts) (sym (append_assoc ss (s ∷ []) ls)) ∙ starts-kept c (ss ++ s ∷ []) ls t.1 ∙ ap (λ z. (begun z).starts) (watch-step c ss s) ∙ quiet-starts c (watch c ss) s t.0

pub knows-kept : (c sb first : ℕ) (ss ls : List Shown) → T (list_all is_quiet ls) → ArePlaceable ss ls → (begun (watch c ss)).starts ≡ sb → Knows c sb first ss → Knows c sb first (ss ++ ls)
knows-kept c sb first ss [] q a n k = subst (Knows c sb first) (sym (append-nil ss)) k
knows-kept c sb first ss (s ∷ ls) q a n k =
    let t = and_parts-T (is_quiet s) (list_all is_quiet ls) q in
    let next : (begun (watch c (ss ++ s ∷ []))).starts ≡ sb = ap (λ z. (begun z).starts) (watch-step c ss s) ∙ quiet-starts c (watch c ss) s t.0 ∙ n in
    subst (Knows c sb first) (append_assoc ss (s ∷ []) ls) (knows-kept c sb first (ss ++ s ∷ []) ls t.1 a.1 next (quiet-knows c sb first ss s t.0 a.0 n k))

-- the first line of a call stays
pub first-line : (l : ℕ) (ss ls : List Shown) → list_any (is_numbered l) ss ≡ true → before_line l (ss ++ ls) ≡ before_line l ss
first-line l ss ls e = before_line-append l ss ls ∙ cond-true (list_any (is_numbered l) ss) (before_line l ss) (ss ++ before_line l ls) e
