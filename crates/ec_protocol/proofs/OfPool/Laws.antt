-- What each change keeps of a pool's parts, and that it is the machine's.
use Rattle.std.proofs.Common.{◌≡◌, ℕ, suc, ◌+◌, ◌<◌, ◌≤◌, refl, sym, ap, subst, ◌∙◌, arith, Bool, true, false, cond, not, ◌&&◌, ◌||◌, T, List, [], ◌∷◌, ◌++◌, length, filter, Option, None, Some, is_some, IsTrue, MatchOption, ◌==◌, nat_lt, is_eq, nat_cmp, position, Result, Ok, Err, is_ok, is_err, if◌then◌else◌, OnOk, OnErr, IfSome, Bor, option_copied, ◌⊎◌, inl, inr, ⊎_elim}
use Rattle.std.specs.List.{position_or_len}
use Rattle.std.specs.Map.{lookup, remove_entry}
use Rattle.std.specs.BTreeMap.{is_at}
use Rattle.std.specs.List.Sorted.{IsStrictlySortedBy}
use Rattle.std.specs.FinMap.Entries.{put, is_sorted}
use Rattle.std.proofs.lemmas.Bool.Decides.{nat_tests}
use Rattle.ec_base.specs.Tables.{Table, at, keys, without, first}
use Rattle.ec_volume.specs.Update.{member}
use Rattle.ec_wire.specs.Messages.{is_sound}
use Rattle.ec_wire.specs.declared.msg.MsgKind.{MsgKind}
use Rattle.ec_protocol.specs.declared.world.Sent.{Sent}
use Rattle.ec_protocol.specs.declared.world.World.{World}
use Rattle.ec_protocol.specs.World.{kept_messages}
use Rattle.ec_protocol.specs.World as machine
use Rattle.ec_protocol.specs.declared.world.WorldFault.TheVariants as fault
use Rattle.ec_protocol.specs.OfPool.Pools.{Pooled, with_pool, made_pending, Stands}
use Rattle.ec_protocol.specs.OfPool.Insides.{AreUpTo, link_of, link_to, AreLinked, stays, HoldsSent as Holds, Forgets, passes, CountsAt, CountsNew}
use Rattle.ec_protocol.specs.declared.pool.links.Link.{Link}
use Rattle.ec_protocol.proofs.OfPool.Lists as lists
use Rattle.ec_wire.specs.RowLaws.{key_of}
use Rattle.ec_base.proofs.Bools.{bool_cases}

-- Tests.

pub either_left : (a b : Bool) → IsTrue a → IsTrue (a || b)
either_left a b h = ap (λ x. x || b) h

pub either_right : (a b : Bool) → IsTrue b → IsTrue (a || b)
either_right true b h = refl
either_right false b h = h

pub either : (a b : Bool) → IsTrue (a || b) → IsTrue a ⊎ IsTrue b
either true b h = inl refl
either false b h = inr h

pub member_last : (n m : ℕ) (ns : List ℕ) → member n (ns ++ m ∷ []) ≡ (member n ns || (n == m))
member_last n m [] = go (n == m)
  where
    go : (b : Bool) → (b || false) ≡ b
    go true = refl
    go false = refl
member_last n m (k ∷ ks) = go (n == k) (member_last n m ks)
  where
    go : (b : Bool) → member n (ks ++ m ∷ []) ≡ (member n ks || (n == m)) → (b || member n (ks ++ m ∷ [])) ≡ ((b || member n ks) || (n == m))
    go true rest = refl
    go false rest = rest

-- Pools and their worlds.

same_pool : (p q : Pooled) → p.sent ≡ q.sent → p.counts ≡ q.counts → p.pool ≡ q.pool → p.pending ≡ q.pending → p.cut ≡ q.cut → p ≡ q
same_pool p q a b c d e = λ i. record { sent = a i; counts = b i; pool = c i; pending = d i; cut = e i }

pub with_same : (w : World) (p q : Pooled) → p.sent ≡ q.sent → p.counts ≡ q.counts → p.pool ≡ q.pool → p.pending ≡ q.pending → p.cut ≡ q.cut → with_pool p w ≡ with_pool q w
with_same w p q a b c d e = ap (λ r. with_pool r w) (same_pool p q a b c d e)

-- The pool that an addition leaves.

module _ (n : ℕ) (s : Sent) (es : Table Sent) (below : (q : ℕ) → IsTrue (is_some (at q es)) → q < n) where
  at_new : (q : ℕ) → at q (es ++ (n, s) ∷ []) ≡ cond (is_eq (nat_cmp q n)) (Some s) (at q es)
  at_new q = lists.at_last n s es q (lists.none_above n es below)

  -- what is found is the new message or was found before
  new_or_old : (q : ℕ) (t : Sent) → at q (es ++ (n, s) ∷ []) ≡ Some t → ((q ≡ n) × (t ≡ s)) ⊎ (at q es ≡ Some t)
  new_or_old q t h = go (is_eq (nat_cmp q n)) refl (sym (at_new q) ∙ h)
    where
      go : (b : Bool) → is_eq (nat_cmp q n) ≡ b → cond b (Some s) (at q es) ≡ Some t → ((q ≡ n) × (t ≡ s)) ⊎ (at q es ≡ Some t)
      go true p is = inl (lists.same q n p, cc)
      go false p is = inr is

  old_stays : (q : ℕ) (t : Sent) → at q es ≡ Some t → at q (es ++ (n, s) ∷ []) ≡ Some t
  old_stays q t h =
      let b : q < n = below q (ap is_some h) in
      let apart : is_eq (nat_cmp q n) ≡ false = grind (arith, nat_tests) in
      at_new q ∙ ap (λ x. cond x (Some s) (at q es)) apart ∙ h

  at_its_place : at n (es ++ (n, s) ∷ []) ≡ Some s
  at_its_place = at_new n ∙ ap (λ x. cond x (Some s) (at n es)) (lists.itself n)

pub some_of : {X : Type 0} (o : Option X) → IsTrue (is_some o) → (x : X) × (o ≡ Some x)
some_of None h = absurd cc
some_of (Some x) h = (x, refl)

linked_some : (o : Option Sent) (l : Link) → link_to o ≡ Some l → IsTrue (is_some o)
linked_some None l h = absurd cc
linked_some (Some s) l h = refl

-- each pending message is kept
pub are_kept : (es : Table Sent) (ps : Table Link) → AreLinked es ps → (q : ℕ) → IsTrue (is_some (at q ps)) → IsTrue (is_some (at q es))
are_kept es ps h q k =
    let l = some_of (at q ps) k in
    linked_some (at q es) l.0 (lists.all_found (λ p. link_to (at p.0 es) ≡ Some p.1) q ps l.0 h l.1)

pub stands : (sent : ℕ) (counts : List ((ℕ × MsgKind) × ℕ)) (es : Table Sent) (ps : Table Link) (settled cut : List ℕ) (forgotten room : ℕ) → Holds sent counts es ps settled forgotten room
    → T (is_sorted nat_cmp ps) → Stands (record { sent = sent; counts = counts; pool = es; pending = keys ps; cut = cut })
stands sent counts es ps settled cut forgotten room h sorted = record {
  pool_rises = h.rises;
  pending_rises = lists.keys_rise ps sorted;
  within = h.within;
  kept = λ q k. are_kept es ps h.linked q (sym (lists.member_keys q ps) ∙ k);
  sound = h.sound;
}

-- Counts.

up_to_more : (n : ℕ) (es : List ((ℕ × MsgKind) × ℕ)) → AreUpTo n es → AreUpTo (n + 1) es
up_to_more n [] h = tt
up_to_more n (e ∷ es) h = ((let k = h.0 in omega arith), up_to_more n es h.1)

one_more_up_to : (n c : ℕ) (k : MsgKind) (es : List ((ℕ × MsgKind) × ℕ)) → AreUpTo n es → AreUpTo (n + 1) (machine.one_more c k es)
one_more_up_to n c k [] h = (omega arith, tt)
one_more_up_to n c k (e ∷ es) h = go (machine.is_count_of c k e) (one_more_up_to n c k es h.1)
  where
    go : (b : Bool) → AreUpTo (n + 1) (machine.one_more c k es) → AreUpTo (n + 1) (elim b [ true ↦ ((c, k), e.1 + 1) ∷ es | false ↦ e ∷ machine.one_more c k es ])
    go true rest = ((let k = h.0 in omega arith), up_to_more n es h.1)
    go false rest = ((let k = h.0 in omega arith), rest)

abbrev count_in : Option ((ℕ × MsgKind) × ℕ) → ℕ
count_in None = 0
count_in (Some e) = e.1

count_is : (c : ℕ) (k : MsgKind) (es : List ((ℕ × MsgKind) × ℕ)) → machine.count_of c k es ≡ count_in (first (machine.is_count_of c k) es)
count_is c k es = go (first (machine.is_count_of c k) es)
  where
    go : (o : Option ((ℕ × MsgKind) × ℕ)) → elim o [ None ↦ 0 | Some e ↦ e.1 ] ≡ count_in o
    go None = refl
    go (Some e) = refl

counts_up_to : (n c : ℕ) (k : MsgKind) (es : List ((ℕ × MsgKind) × ℕ)) → AreUpTo n es → count_in (first (machine.is_count_of c k) es) ≤ n
counts_up_to n c k [] h = omega arith
counts_up_to n c k (e ∷ es) h = go (machine.is_count_of c k e) (counts_up_to n c k es h.1)
  where
    go : (b : Bool) → count_in (first (machine.is_count_of c k) es) ≤ n → count_in (elim b [ true ↦ Some e | false ↦ first (machine.is_count_of c k) es ]) ≤ n
    go true rest = h.0
    go false rest = rest

pub count_up_to : (n c : ℕ) (k : MsgKind) (es : List ((ℕ × MsgKind) × ℕ)) → AreUpTo n es → machine.count_of c k es ≤ n
count_up_to n c k es h = rw (count_is c k es) (counts_up_to n c k es h)

pub up_to_on : (n m : ℕ) (es : List ((ℕ × MsgKind) × ℕ)) → n ≤ m → AreUpTo n es → AreUpTo m es
up_to_on n m [] l h = tt
up_to_on n m (e ∷ es) l h = ((let k = h.0 in omega arith), up_to_on n m es l h.1)

-- Counts by their places.

more_here : (c : ℕ) (k : MsgKind) (e : (ℕ × MsgKind) × ℕ) (es : List ((ℕ × MsgKind) × ℕ)) → machine.is_count_of c k e ≡ true → machine.one_more c k (e ∷ es) ≡ ((c, k), e.1 + 1) ∷ es
more_here c k e es q = ap (λ b. elim b as (λ _. List ((ℕ × MsgKind) × ℕ)) [ true ↦ ((c, k), e.1 + 1) ∷ es | false ↦ e ∷ machine.one_more c k es ]) q

more_later : (c : ℕ) (k : MsgKind) (e : (ℕ × MsgKind) × ℕ) (es : List ((ℕ × MsgKind) × ℕ)) → machine.is_count_of c k e ≡ false → machine.one_more c k (e ∷ es) ≡ e ∷ machine.one_more c k es
more_later c k e es q = ap (λ b. elim b as (λ _. List ((ℕ × MsgKind) × ℕ)) [ true ↦ ((c, k), e.1 + 1) ∷ es | false ↦ e ∷ machine.one_more c k es ]) q

count_here : (c : ℕ) (k : MsgKind) (e : (ℕ × MsgKind) × ℕ) (es : List ((ℕ × MsgKind) × ℕ)) → machine.is_count_of c k e ≡ true → machine.count_of c k (e ∷ es) ≡ e.1
count_here c k e es q = count_is c k (e ∷ es) ∙ ap (λ b. count_in (elim b as (λ _. Option ((ℕ × MsgKind) × ℕ)) [ true ↦ Some e | false ↦ first (machine.is_count_of c k) es ])) q

count_later : (c : ℕ) (k : MsgKind) (e : (ℕ × MsgKind) × ℕ) (es : List ((ℕ × MsgKind) × ℕ)) → machine.is_count_of c k e ≡ false → machine.count_of c k (e ∷ es) ≡ machine.count_of c k es
count_later c k e es q = count_is c k (e ∷ es) ∙ ap (λ b. count_in (elim b as (λ _. Option ((ℕ × MsgKind) × ℕ)) [ true ↦ Some e | false ↦ first (machine.is_count_of c k) es ])) q ∙ sym (count_is c k es)

counts_at : (c : ℕ) (k : MsgKind) (es : List ((ℕ × MsgKind) × ℕ)) (i : ℕ) → position_or_len (machine.is_count_of c k) es ≡ i → i < length es → CountsAt c k es i
counts_at c k [] i p l = absurd (omega arith)
counts_at c k (e ∷ es) i p l = go (machine.is_count_of c k e) refl p (counts_at c k es)
  where
    go : (b : Bool) → machine.is_count_of c k e ≡ b → cond (not b) (1 + position_or_len (machine.is_count_of c k) es) 0 ≡ i
        → ((j : ℕ) → position_or_len (machine.is_count_of c k) es ≡ j → j < length es → CountsAt c k es j) → CountsAt c k (e ∷ es) i
    go true q p rest = subst (CountsAt c k (e ∷ es)) p (record { within = omega arith; count = λ d. count_here c k e es q; more = λ d. more_here c k e es q })
    go false q p rest =
        let r = rest (position_or_len (machine.is_count_of c k) es) refl (omega arith) in
        let place : suc (position_or_len (machine.is_count_of c k) es) ≡ i = omega arith in
        subst (CountsAt c k (e ∷ es)) place (record {
          within = let w = r.within in omega arith;
          count = λ d. count_later c k e es q ∙ r.count d;
          more = λ d. more_later c k e es q ∙ ap (λ xs. e ∷ xs) (r.more d);
        })

counts_new : (c : ℕ) (k : MsgKind) (es : List ((ℕ × MsgKind) × ℕ)) → length es ≤ position_or_len (machine.is_count_of c k) es → CountsNew c k es
counts_new c k [] l = record { count = refl; more = refl }
counts_new c k (e ∷ es) l = go (machine.is_count_of c k e) refl l (counts_new c k es)
  where
    go : (b : Bool) → machine.is_count_of c k e ≡ b → length (e ∷ es) ≤ cond (not b) (1 + position_or_len (machine.is_count_of c k) es) 0
        → (length es ≤ position_or_len (machine.is_count_of c k) es → CountsNew c k es) → CountsNew c k (e ∷ es)
    go true q l rest = absurd (omega arith)
    go false q l rest = let r = rest (omega arith) in record { count = count_later c k e es q ∙ r.count; more = more_later c k e es q ∙ ap (λ xs. e ∷ xs) r.more }

pub places : (c : ℕ) (k : MsgKind) (es : List ((ℕ × MsgKind) × ℕ)) → MatchOption (position (machine.is_count_of c k) es) (CountsNew c k es) (CountsAt c k es)
places c k es = go (nat_lt (position_or_len (machine.is_count_of c k) es) (length es)) refl
  where
    go : (b : Bool) → nat_lt (position_or_len (machine.is_count_of c k) es) (length es) ≡ b → MatchOption (cond b (Some (position_or_len (machine.is_count_of c k) es)) None) (CountsNew c k es) (CountsAt c k es)
    go true q = counts_at c k es (position_or_len (machine.is_count_of c k) es) refl (grind (arith, nat_tests))
    go false q = counts_new c k es (grind (arith, nat_tests))

-- A message that is sent.

pub sent_holds : (sent : ℕ) (counts : List ((ℕ × MsgKind) × ℕ)) (es : Table Sent) (ps : Table Link) (settled : List ℕ) (forgotten room : ℕ) (n c : ℕ) (k : MsgKind) (s : Sent) (more : ℕ)
    → Holds sent counts es ps settled forgotten room → n ≡ sent + 1 → IsTrue (is_sound s.msg) → IsStrictlySortedBy nat_cmp (keys (es ++ (n, s) ∷ [])) → length settled + (length ps + 1) ≤ more
    → Holds n (machine.one_more c k counts) (es ++ (n, s) ∷ []) (ps ++ (n, link_of s) ∷ []) settled forgotten more
sent_holds sent counts es ps settled forgotten room n c k s more h is sound rises fits =
    let below : (q : ℕ) → IsTrue (is_some (at q es)) → q < n = λ q f. let w = h.within q f in omega arith in
    let below_ps : (q : ℕ) → IsTrue (is_some (at q ps)) → q < n = λ q f. below q (are_kept es ps h.linked q f) in
    let none : at n ps ≡ None = lists.none_above n ps below_ps in
    let old_known : (q : ℕ) → IsTrue (stays forgotten ps q || member q settled) → IsTrue (stays forgotten (ps ++ (n, link_of s) ∷ []) q || member q settled) =
    λ q f. known_more q (nat_lt forgotten (q + kept_messages)) (is_some (at q ps)) (is_some (at q (ps ++ (n, link_of s) ∷ []))) (member q settled)
    (λ g. ap is_some (lists.at_last n (link_of s) ps q none) ∙ by (is_eq (nat_cmp q n)) (at q ps) g) f in
    record {
      counted = subst (λ m. AreUpTo m (machine.one_more c k counts)) (sym is) (one_more_up_to sent c k counts h.counted);
      rises = rises;
      within = λ q f. ⊎_elim (λ p. let e = p.0 in omega arith) (λ o. let w = h.within q (ap is_some o) in omega arith) (let x = some_of (at q (es ++ (n, s) ∷ [])) f in new_or_old n s es below q x.0 x.1);
      sound = λ q t f. ⊎_elim (λ p. subst (λ (u : Sent). IsTrue (is_sound u.msg)) (sym p.1) sound) (λ o. h.sound q t o) (new_or_old n s es below q t f);
      linked = lists.all_last _ ps (n, link_of s)
          (lists.all_by (λ p. link_to (at p.0 es) ≡ Some p.1) (λ p. link_to (at p.0 (es ++ (n, s) ∷ [])) ≡ Some p.1) ps
          (λ p k l. let x = some_of (at p.0 es) (linked_some (at p.0 es) p.1 l) in ap link_to (old_stays n s es below p.0 x.0 x.1 ∙ sym x.1) ∙ l) h.linked)
          (ap link_to (at_its_place n s es below));
      known = λ q f. ⊎_elim
          (λ p. either_left (stays forgotten (ps ++ (n, link_of s) ∷ []) q) (member q settled)
          (either_right (nat_lt forgotten (q + kept_messages)) (is_some (at q (ps ++ (n, link_of s) ∷ [])))
          (subst (λ r. IsTrue (is_some (at r (ps ++ (n, link_of s) ∷ [])))) (sym p.0) (ap is_some (lists.at_last n (link_of s) ps n none ∙ ap (λ x. cond x (Some (link_of s)) (at n ps)) (lists.itself n))))))
          (λ o. old_known q (h.known q (ap is_some o)))
          (let x = some_of (at q (es ++ (n, s) ∷ [])) f in new_or_old n s es below q x.0 x.1);
      has_room = rw (lists.length_last (n, link_of s) ps) fits;
    }
  where
    known_more : (q : ℕ) (a b b' d : Bool) → (IsTrue b → IsTrue b') → IsTrue ((a || b) || d) → IsTrue ((a || b') || d)
    known_more q true b b' d f h = refl
    known_more q false true b' d f h = either_left b' d (f refl)
    known_more q false false b' true f h = either_right b' true refl
    known_more q false false b' false f h = absurd cc

    by : (b : Bool) (o : Option Link) → IsTrue (is_some o) → IsTrue (is_some (cond b (Some (link_of s)) o))
    by true o h = refl
    by false o h = h

-- A message that is settled.

pub settled_holds : (sent : ℕ) (counts : List ((ℕ × MsgKind) × ℕ)) (es : Table Sent) (ps : Table Link) (settled : List ℕ) (forgotten room n : ℕ)
    → Holds sent counts es ps settled forgotten room → IsTrue (is_some (at n ps)) → Holds sent counts es (without n ps) (settled ++ n ∷ []) forgotten room
settled_holds sent counts es ps settled forgotten room n h is = record {
  counted = h.counted;
  rises = h.rises;
  within = h.within;
  sound = h.sound;
  linked = lists.all_filter _ _ ps h.linked;
  known = λ q f. subst (λ b. IsTrue (stays forgotten (without n ps) q || b)) (sym (member_last q n settled)) (go q (is_eq (nat_cmp n q)) refl (h.known q f));
  has_room = let a = lists.length_without n ps is in let b = ends n settled in let c = h.has_room in omega arith;
}
  where
    ends : (n : ℕ) (ns : List ℕ) → length (ns ++ n ∷ []) ≡ length ns + 1
    ends n [] = refl
    ends n (m ∷ ms) = let k = ends n ms in omega arith

    shift : (a b c : Bool) → IsTrue ((a || b) || c) → IsTrue ((a || b) || (c || false))
    shift true b c h = refl
    shift false true c h = refl
    shift false false true h = refl
    shift false false false h = absurd cc

    go : (q : ℕ) (b : Bool) → is_eq (nat_cmp n q) ≡ b → IsTrue (stays forgotten ps q || member q settled) → IsTrue (stays forgotten (without n ps) q || (member q settled || (q == n)))
    go q true p k =
        let e : (q == n) ≡ true = lists.test_back n q ∙ p in
        either_right (stays forgotten (without n ps) q) (member q settled || (q == n)) (either_right (member q settled) (q == n) e)
    go q false p k =
        let e : (q == n) ≡ false = lists.test_back n q ∙ p in
        let f : at q (without n ps) ≡ at q ps = lists.at_without n q ps ∙ ap (λ b. cond (not b) (at q ps) None) p in
        subst (λ b. IsTrue ((nat_lt forgotten (q + kept_messages) || is_some b) || (member q settled || (q == n)))) (sym f)
        (subst (λ b. IsTrue (stays forgotten ps q || (member q settled || b))) (sym e) (shift (nat_lt forgotten (q + kept_messages)) (is_some (at q ps)) (member q settled) k))

-- A message that gets pending again.

pub pending_holds : (sent : ℕ) (counts : List ((ℕ × MsgKind) × ℕ)) (es : Table Sent) (ps : Table Link) (settled : List ℕ) (forgotten room n more : ℕ) (s : Sent)
    → Holds sent counts es ps settled forgotten room → at n es ≡ Some s → at n ps ≡ None → length settled + (length ps + 1) ≤ more → Holds sent counts es (put nat_cmp n (link_of s) ps) settled forgotten more
pending_holds sent counts es ps settled forgotten room n more s h kept none fits = record {
  counted = h.counted;
  rises = h.rises;
  within = h.within;
  sound = h.sound;
  linked = lists.all_put _ n (link_of s) ps none h.linked (ap link_to kept);
  known = λ q f. subst (λ (o : Option Link). IsTrue ((nat_lt forgotten (q + kept_messages) || is_some o) || member q settled)) (sym (lists.at_put n (link_of s) ps q)) (go (nat_lt forgotten (q + kept_messages)) (is_eq (nat_cmp q n)) (at q ps) (member q settled) (h.known q f));
  has_room = let k = lists.length_put n (link_of s) ps in omega arith;
}
  where
    go : (a b : Bool) (o : Option Link) (c : Bool) → IsTrue ((a || is_some o) || c) → IsTrue ((a || is_some (cond b (Some (link_of s)) o)) || c)
    go true b o c h = refl
    go false true o c h = refl
    go false false o c h = h

-- Which messages are forgotten.

pub forgets_none : (sent : ℕ) (ps : Table Link) (es : Table Sent) → Forgets sent ps es es
forgets_none sent ps es = record { same = refl; staying = λ n h. refl; fewer = λ n h. refl; rises = λ h. h }

pub forgets_on : (sent : ℕ) (ps : Table Link) (a b c : Table Sent) → Forgets sent ps a b → Forgets sent ps b c → Forgets sent ps a c
forgets_on sent ps a b c f g = record {
  same = g.same ∙ f.same;
  staying = λ n h. g.staying n h ∙ f.staying n h;
  fewer = λ n h. let e = g.fewer n h in e ∙ f.fewer n (subst (λ o. IsTrue (is_some o)) e h);
  rises = λ h. g.rises (f.rises h);
}

-- one that doesn't stay is forgotten
pub forgets_one : (n : ℕ) (es new : Table Sent) (ps : Table Link) (sent : ℕ) → at n ps ≡ None → n + kept_messages ≤ sent → new ≡ remove_entry (is_at (nat_cmp n)) es
    → ((q : ℕ) → lookup (is_at (nat_cmp q)) new ≡ cond (is_at (nat_cmp n) q) None (lookup (is_at (nat_cmp q)) es)) → IsStrictlySortedBy nat_cmp (keys new) → Forgets sent ps es new
forgets_one n es new ps sent none passed is looks rises = record {
  same = ap (λ xs. filter (λ e. stays sent ps e.0) xs) is ∙ lists.filter_removed (stays sent ps) n es (let l : nat_lt sent (n + kept_messages) ≡ false = grind (arith, nat_tests) in rw (l, none));
  staying = λ q s. at_new q ∙ go q (is_eq (nat_cmp n q)) refl s;
  fewer = λ q s. at_new q ∙ by q (is_eq (nat_cmp n q)) (subst (λ o. IsTrue (is_some o)) (at_new q) s);
  rises = λ _. rises;
}
  where
    at_new : (q : ℕ) → at q new ≡ cond (is_eq (nat_cmp n q)) None (at q es)
    at_new q = sym (lists.found q new) ∙ looks q ∙ ap (λ o. cond (is_eq (nat_cmp n q)) None o) (lists.found q es)

    go : (q : ℕ) (b : Bool) → is_eq (nat_cmp n q) ≡ b → IsTrue (stays sent ps q) → cond b None (at q es) ≡ at q es
    go q true p s =
        let e : n ≡ q = lists.same n q p in
        let l : nat_lt sent (q + kept_messages) ≡ false = grind (arith, nat_tests) in
        let m : at q ps ≡ None = subst (λ r. at r ps ≡ None) e none in
        let f : IsTrue (false || is_some (at q ps)) = subst (λ b. IsTrue (b || is_some (at q ps))) l s in
        let P : Option Link → Type 0 = λ o. IsTrue (is_some o) in
        let g : P None = subst P m f in
        absurd cc
    go q false p s = refl

    by : (q : ℕ) (b : Bool) → IsTrue (is_some (cond b None (at q es))) → cond b None (at q es) ≡ at q es
    by q true s = absurd cc
    by q false s = refl

-- and is kept no longer
pub gone_one : (n : ℕ) (es new : Table Sent) → ((q : ℕ) → lookup (is_at (nat_cmp q)) new ≡ cond (is_at (nat_cmp n) q) None (lookup (is_at (nat_cmp q)) es)) → at n new ≡ None
gone_one n es new looks = sym (lists.found n new) ∙ looks n ∙ ap (λ b. cond b None (lookup (is_at (nat_cmp n)) es)) (lists.itself n)

-- A pool whose messages are forgotten in two steps: those that were settled, then those that aren't among the last ones any more.
module _ (sent : ℕ) (counts : List ((ℕ × MsgKind) × ℕ)) (es mid new : Table Sent) (ps : Table Link) (settled : List ℕ) (forgotten room : ℕ)
    (h : Holds sent counts es ps settled forgotten room) (f : Forgets sent ps es mid) (g : Forgets sent ps mid new)
    (u : (n : ℕ) → IsTrue (member n settled) → IsTrue (is_some (at n mid)) → IsTrue (stays sent ps n))
    (v : (n : ℕ) → forgotten < n + kept_messages → n + kept_messages ≤ sent → IsTrue (is_some (at n new)) → IsTrue (is_some (at n ps))) where
  all_stay : (n : ℕ) → IsTrue (is_some (at n new)) → IsTrue (stays sent ps n)
  all_stay n k =
      let in_mid : IsTrue (is_some (at n mid)) = subst (λ o. IsTrue (is_some o)) (g.fewer n k) k in
      let in_es : IsTrue (is_some (at n es)) = subst (λ o. IsTrue (is_some o)) (f.fewer n in_mid) in_mid in
      let now : IsTrue (is_some (at n ps)) → IsTrue (stays sent ps n) = either_right (nat_lt sent (n + kept_messages)) (is_some (at n ps)) in
      ⊎_elim
      (λ s. ⊎_elim
      (λ l. let since : forgotten < n + kept_messages = grind (arith, nat_tests, l) in
      ⊎_elim (λ y. either_left (nat_lt sent (n + kept_messages)) (is_some (at n ps)) y)
      (λ x. let passed : n + kept_messages ≤ sent = grind (arith, nat_tests, x) in now (v n since passed k))
      (bool_cases (nat_lt sent (n + kept_messages))))
      now (either (nat_lt forgotten (n + kept_messages)) (is_some (at n ps)) s))
      (λ m. u n m in_mid)
      (either (stays forgotten ps n) (member n settled) (h.known n in_es))

  pub forgot_holds : Holds sent counts new ps [] sent room
  forgot_holds =
      let on = forgets_on sent ps es mid new f g in
      record {
        counted = h.counted;
        rises = on.rises h.rises;
        within = λ n k. h.within n (subst (λ o. IsTrue (is_some o)) (on.fewer n k) k);
        sound = λ n s k. h.sound n s (sym (on.fewer n (ap is_some k)) ∙ k);
        linked = lists.all_by (λ p. link_to (at p.0 es) ≡ Some p.1) (λ p. link_to (at p.0 new) ≡ Some p.1) ps
            (λ p k l. ap link_to (on.staying p.0 (either_right (nat_lt sent (p.0 + kept_messages)) (is_some (at p.0 ps)) k)) ∙ l) h.linked;
        known = λ n k. either_left (stays sent ps n) (member n []) (all_stay n k);
        has_room = let k = h.has_room in omega arith;
      }

  -- what stays is what the machine keeps
  pub forgot_same : filter (λ e. nat_lt sent (e.0 + kept_messages) || member e.0 (keys ps)) es ≡ new
  forgot_same =
      lists.filter_same (λ n. nat_lt sent (n + kept_messages) || member n (keys ps)) (stays sent ps) es (λ n. ap (λ b. nat_lt sent (n + kept_messages) || b) (lists.member_keys n ps))
      ∙ sym (forgets_on sent ps es mid new f g).same
      ∙ lists.filter_all (stays sent ps) new all_stay

-- The due message.

pub first_is_found : {X : Type 0} (p : ℕ × X → Bool) (es : Table X) (e : ℕ × X) → first p es ≡ Some e → IsTrue (is_some (at e.0 es))
first_is_found p [] e h = absurd cc
first_is_found {X = X} p (d ∷ es) e h = go (p d) h (first_is_found p es e)
  where
    go : (b : Bool) → elim b as (λ _. Option (ℕ × X)) [ true ↦ Some d | false ↦ first p es ] ≡ Some e → (first p es ≡ Some e → IsTrue (is_some (at e.0 es))) → IsTrue (is_some (at e.0 (d ∷ es)))
    go true h rest = let a : d ≡ e = cc in subst (λ (x : ℕ × X). IsTrue (is_some (at x.0 (d ∷ es)))) a (ap is_some (lists.first_found d es))
    go false h rest = lists.later_found e.0 d es (rest h)

pub passes_as : (w : World) (running : Bool) (o : Option Sent) (l : Link) → is_some w.server ≡ running → link_to o ≡ Some l → machine.is_deliverable w o ≡ passes w.cut running l
passes_as w running None l r h = absurd cc
passes_as w running (Some s) l r h =
    let e : link_of s ≡ l = cc in
    ap (λ b. not (member s.clerk w.cut) && (not (machine.is_for_server s) || b)) r ∙ ap (passes w.cut running) e

pub due_is : (w : World) (running : Bool) (es : Table Sent) (ps : Table Link) → is_some w.server ≡ running → AreLinked es ps
    → first (λ n. machine.is_deliverable w (at n es)) (keys ps) ≡ key_of (first (λ p. passes w.cut running p.1) ps)
due_is w running es [] r h = refl
due_is w running es (p ∷ ps) r h =
    ap (λ b. elim b as (λ _. Option ℕ) [ true ↦ Some p.0 | false ↦ first (λ n. machine.is_deliverable w (at n es)) (keys ps) ]) (passes_as w running (at p.0 es) p.1 r h.0)
    ∙ go (passes w.cut running p.1) (due_is w running es ps r h.1)
  where
    go : (b : Bool) → first (λ n. machine.is_deliverable w (at n es)) (keys ps) ≡ key_of (first (λ p. passes w.cut running p.1) ps)
        → elim b as (λ _. Option ℕ) [ true ↦ Some p.0 | false ↦ first (λ n. machine.is_deliverable w (at n es)) (keys ps) ] ≡ key_of (elim b as (λ _. Option (ℕ × Link)) [ true ↦ Some p | false ↦ first (λ p. passes w.cut running p.1) ps ])
    go true rest = refl
    go false rest = rest

-- What the calls of a pool make of a world, whose pool stands in these parts.

pub none_of : {X : Type 0} (o : Option X) → is_some o ≡ false → o ≡ None
none_of None h = refl
none_of (Some x) h = absurd cc

-- one more at the end, where a push succeeded
pub pushed : {A E : Type 0} (r : Result A E) (x : A) (ns ms : List ℕ) (k : ℕ) → r ≡ Ok x → ns ≡ (if is_ok r then ms ++ k ∷ [] else ms) → ns ≡ ms ++ k ∷ []
pushed (Ok y) x ns ms k e h = h
pushed (Err z) x ns ms k e h = absurd cc

pub err_of : {A E P : Type 0} (r : Result A E) (b : Bool) → b ≡ is_err r → b ≡ true → OnErr r P → P
err_of (Ok x) b e h k = absurd cc
err_of (Err x) b e h k = k

pub ok_of : {A E P : Type 0} (r : Result A E) (b : Bool) → b ≡ is_err r → b ≡ false → OnOk r P → P
ok_of (Ok x) b e h k = k
ok_of (Err x) b e h k = absurd cc

pub key_found : {X : Type 0} (r : Option ℕ) (p : ℕ × X → Bool) (es : Table X) → r ≡ key_of (first p es) → IfSome r (λ n. IsTrue (is_some (at n es)))
key_found {X = X} r p es e = subst (λ o. IfSome o (λ n. IsTrue (is_some (at n es)))) (sym e) (go (first p es) refl)
  where
    go : (o : Option (ℕ × X)) → first p es ≡ o → IfSome (key_of o) (λ n. IsTrue (is_some (at n es)))
    go None h = tt
    go (Some d) h = first_is_found p es d h

pub if_some : {P Q : ℕ → Type 0} (r : Option ℕ) → ((n : ℕ) → P n → Q n) → IfSome r P → IfSome r Q
if_some None f h = tt
if_some (Some n) f h = f n h

-- the first of a list whose head is at hand
pub first_here : {X : Type 0} (p : ℕ × X → Bool) (es rest new : Table X) (n : ℕ) (x : X) → first p es ≡ first p rest → rest ≡ (n, x) ∷ new → p (n, x) ≡ true → Some n ≡ key_of (first p es)
first_here {X = X} p es rest new n x e f h =
    sym (ap key_of (e ∙ ap (first p) f ∙ ap (λ b. elim b as (λ _. Option (ℕ × X)) [ true ↦ Some (n, x) | false ↦ first p new ]) h))

pub first_later : {X : Type 0} (p : ℕ × X → Bool) (es rest new : Table X) (n : ℕ) (x : X) → first p es ≡ first p rest → rest ≡ (n, x) ∷ new → p (n, x) ≡ false → first p es ≡ first p new
first_later {X = X} p es rest new n x e f h = e ∙ ap (first p) f ∙ ap (λ b. elim b as (λ _. Option (ℕ × X)) [ true ↦ Some (n, x) | false ↦ first p new ]) h

pub find_is : (w : World) (p : Pooled) (es : Table Sent) (c : ℕ) (k : MsgKind) (n m : ℕ) (r : Option ℕ) → es ≡ p.pool → m ≡ n → r ≡ key_of (first (machine.is_this c k m) es) → machine.find c k n (with_pool p w) ≡ r
find_is w p es c k n m r e q h = go (first (machine.is_this c k n) p.pool) ∙ (λ i. key_of (first (machine.is_this c k (sym q i)) (sym e i))) ∙ sym h
  where
    go : (o : Option (ℕ × Sent)) → elim o [ None ↦ None | Some e ↦ Some e.0 ] ≡ key_of o
    go None = refl
    go (Some e) = refl

pub on_ok : {A E : Type 0} {P Q : Type 0} (r : Result A E) → OnOk r P → (P → Q) → OnOk r Q
on_ok (Ok x) h f = f h
on_ok (Err e) h f = tt

pub sound_copied : (o : Option (Bor Sent)) (es : Table Sent) (n : ℕ) → option_copied o ≡ lookup (is_at (nat_cmp n)) es → ((m : ℕ) (s : Sent) → at m es ≡ Some s → IsTrue (is_sound s.msg)) → IfSome o (λ s. IsTrue (is_sound s.now.msg))
sound_copied None es n e h = tt
sound_copied (Some x) es n e h = h n x.now (sym (lists.found n es) ∙ sym e)

pub repeat_is : (w : World) (p q : Pooled) (n : ℕ) → IsTrue (is_some (at n p.pool)) → made_pending n (with_pool p w) ≡ with_pool q w → machine.repeat n (with_pool p w) ≡ machine.moving (with_pool q w)
repeat_is w p q n h e = go (at n p.pool) h
  where
    go : (o : Option Sent) → IsTrue (is_some o) → elim o [ None ↦ machine.fails fault.NoSuchMsg (with_pool p w) | Some s ↦ machine.moving (made_pending n (with_pool p w)) ] ≡ machine.moving (with_pool q w)
    go None h = absurd cc
    go (Some s) h = ap machine.moving e

pub made_same : (w : World) (p : Pooled) (n : ℕ) → member n p.pending ≡ true → made_pending n (with_pool p w) ≡ with_pool p w
made_same w p n h = ap (λ b. record (with_pool p w) { pending = elim b as (λ _. List ℕ) [ true ↦ p.pending | false ↦ machine.among n p.pending ] }) h

module _ (sent : ℕ) (counts : List ((ℕ × MsgKind) × ℕ)) (es : Table Sent) (ps : Table Link) (cut : List ℕ) where
  abbrev pooled : Pooled
  pooled = record { sent = sent; counts = counts; pool = es; pending = keys ps; cut = cut }

  pub settled_is : (p : Pooled) → pooled ≡ p → (n : ℕ) (qs : Table Link) → qs ≡ without n ps → (w : World) → machine.settled n (with_pool p w) ≡ with_pool (record { sent = sent; counts = counts; pool = es; pending = keys qs; cut = cut }) w
  settled_is p v n qs e w =
      subst (λ r. machine.settled n (with_pool r w) ≡ with_pool (record { sent = sent; counts = counts; pool = es; pending = keys qs; cut = cut }) w) v
      (ap (λ ns. with_pool (record { sent = sent; counts = counts; pool = es; pending = ns; cut = cut }) w) (lists.keys_without n ps ∙ ap keys (sym e)))

  pub made_put : (p : Pooled) → pooled ≡ p → (n : ℕ) (x : Link) (qs : Table Link) → at n ps ≡ None → qs ≡ put nat_cmp n x ps → (w : World)
      → made_pending n (with_pool p w) ≡ with_pool (record { sent = sent; counts = counts; pool = es; pending = keys qs; cut = cut }) w
  made_put p v n x qs none e w =
      subst (λ r. made_pending n (with_pool r w) ≡ with_pool (record { sent = sent; counts = counts; pool = es; pending = keys qs; cut = cut }) w) v
      (ap (λ b. with_pool (record { sent = sent; counts = counts; pool = es; pending = elim b as (λ _. List ℕ) [ true ↦ keys ps | false ↦ machine.among n (keys ps) ]; cut = cut }) w) (lists.member_keys n ps ∙ ap is_some none)
      ∙ ap (λ ns. with_pool (record { sent = sent; counts = counts; pool = es; pending = ns; cut = cut }) w) (sym (lists.keys_put n x ps none) ∙ ap keys (sym e)))

  pub uncut_is : (p : Pooled) → pooled ≡ p → (c : ℕ) (cs : List ℕ) → member c p.cut ≡ true → cs ≡ filter (λ d. not (d == c)) cut → (w : World)
      → machine.uncut c (with_pool p w) ≡ machine.moving (with_pool (record { sent = sent; counts = counts; pool = es; pending = keys ps; cut = cs }) w)
  uncut_is p v c cs h e w =
      subst (λ r. machine.uncut c (with_pool r w) ≡ machine.moving (with_pool (record { sent = sent; counts = counts; pool = es; pending = keys ps; cut = cs }) w)) v
      (ap (λ b. elim b as (λ _. machine.Moving) [ true ↦ machine.moving (with_pool (record { sent = sent; counts = counts; pool = es; pending = keys ps; cut = filter (λ d. not (d == c)) cut }) w) | false ↦ machine.nothing (with_pool pooled w) ])
      (ap (λ r. member c r.cut) v ∙ h)
      ∙ ap (λ ds. machine.moving (with_pool (record { sent = sent; counts = counts; pool = es; pending = keys ps; cut = ds }) w)) (sym e))

  pub due_of : (p : Pooled) → pooled ≡ p → (running : Bool) (r : Option ℕ) (ds : List ℕ) (qs : Table Link) → qs ≡ ps → ds ≡ cut → r ≡ key_of (first (λ p. passes ds running p.1) qs) → AreLinked es ps
      → (w : World) → is_some w.server ≡ running → machine.due (with_pool p w) ≡ r
  due_of p v running r ds qs a b e h w run =
      subst (λ q. machine.due (with_pool q w) ≡ r) v
      (due_is (with_pool pooled w) running es ps run h ∙ (λ i. key_of (first (λ p. passes (sym b i) running p.1) (sym a i))) ∙ sym e)

  module _ (settled : List ℕ) (forgotten room : ℕ) (h : Holds sent counts es ps settled forgotten room) where
    module _ (mid new : Table Sent) (ds : List ℕ) (same : ds ≡ settled) (f : Forgets sent ps es mid) (g : Forgets sent ps mid new)
        (u : (n : ℕ) → IsTrue (member n ds) → IsTrue (is_some (at n mid)) → IsTrue (stays sent ps n))
        (v : (n : ℕ) → forgotten < n + kept_messages → n + kept_messages ≤ sent → IsTrue (is_some (at n new)) → IsTrue (is_some (at n ps))) where
      pub forgot_on : (ns : List ℕ) (more : ℕ) → ns ≡ [] → more ≡ room → Holds sent counts new ps ns sent more
      forgot_on ns more e l =
          subst (λ x. Holds sent counts new ps ns sent x) (sym l) (subst (λ x. Holds sent counts new ps x sent room) (sym e)
          (forgot_holds sent counts es mid new ps settled forgotten room h f g (λ n m. u n (subst (λ x. IsTrue (member n x)) (sym same) m)) v))

      pub forgot_is : (p : Pooled) → pooled ≡ p → (w : World) → machine.forget (with_pool p w) ≡ with_pool (record { sent = sent; counts = counts; pool = new; pending = keys ps; cut = cut }) w
      forgot_is p t w =
          subst (λ q. machine.forget (with_pool q w) ≡ with_pool (record { sent = sent; counts = counts; pool = new; pending = keys ps; cut = cut }) w) t
          (ap (λ xs. with_pool (record { sent = sent; counts = counts; pool = xs; pending = keys ps; cut = cut }) w)
          (forgot_same sent counts es mid new ps settled forgotten room h f g (λ n m. u n (subst (λ x. IsTrue (member n x)) (sym same) m)) v))

    pub unsettled_holds : (n : ℕ) (qs : Table Link) → at n ps ≡ None → qs ≡ without n ps → Holds sent counts es qs settled forgotten room
    unsettled_holds n qs none e = subst (λ xs. Holds sent counts es xs settled forgotten room) (sym (e ∙ lists.without_none n ps none)) h

    pub settled_on : (n : ℕ) (qs : Table Link) (ns : List ℕ) (more : ℕ) → IsTrue (is_some (at n ps)) → qs ≡ without n ps → ns ≡ settled ++ n ∷ [] → room ≤ more → Holds sent counts es qs ns forgotten more
    settled_on n qs ns more is e f l =
        let k = settled_holds sent counts es ps settled forgotten room n h is in
        let j : Holds sent counts es (without n ps) (settled ++ n ∷ []) forgotten more = record { counted = k.counted; rises = k.rises; within = k.within; sound = k.sound; linked = k.linked; known = k.known; has_room = let r = k.has_room in omega arith } in
        subst (λ xs. Holds sent counts es xs ns forgotten more) (sym e) (subst (λ xs. Holds sent counts es (without n ps) xs forgotten more) (sym f) j)

    pub roomier : (ns : List ℕ) (more : ℕ) → ns ≡ settled → room ≤ more → Holds sent counts es ps ns forgotten more
    roomier ns more e l = subst (λ xs. Holds sent counts es ps xs forgotten more) (sym e)
        (record { counted = h.counted; rises = h.rises; within = h.within; sound = h.sound; linked = h.linked; known = h.known; has_room = let r = h.has_room in omega arith })

    pub pending_on : {A E : Type 0} (r : Result A E) (n : ℕ) (s : Sent) (qs : Table Link) (ns : List ℕ) (more : ℕ) → at n es ≡ Some s → at n ps ≡ None → ns ≡ settled → length settled + (length ps + 1) ≤ more → room ≤ more
        → OnOk r (qs ≡ put nat_cmp n (link_of s) ps) → OnErr r (qs ≡ ps) → Holds sent counts es qs ns forgotten more
    pending_on (Ok a) n s qs ns more kept none e fits l ok err =
        subst (λ xs. Holds sent counts es xs ns forgotten more) (sym ok) (subst (λ xs. Holds sent counts es (put nat_cmp n (link_of s) ps) xs forgotten more) (sym e)
        (pending_holds sent counts es ps settled forgotten room n more s h kept none fits))
    pending_on (Err x) n s qs ns more kept none e fits l ok err = subst (λ xs. Holds sent counts es xs ns forgotten more) (sym err) (roomier ns more e l)

    pub sent_on : (n c : ℕ) (k : MsgKind) (s : Sent) (cs : List ((ℕ × MsgKind) × ℕ)) (fs : Table Sent) (qs : Table Link) (ns : List ℕ) (more : ℕ) → n ≡ sent + 1 → IsTrue (is_sound s.msg)
        → cs ≡ machine.one_more c k counts → fs ≡ es ++ (n, s) ∷ [] → qs ≡ ps ++ (n, link_of s) ∷ [] → IsStrictlySortedBy nat_cmp (keys fs) → ns ≡ settled → length settled + (length ps + 1) ≤ more
        → Holds n cs fs qs ns forgotten more
    sent_on n c k s cs fs qs ns more is sound a b d rises e fits =
        subst (λ x. Holds n x fs qs ns forgotten more) (sym a) (subst (λ x. Holds n (machine.one_more c k counts) x qs ns forgotten more) (sym b)
        (subst (λ x. Holds n (machine.one_more c k counts) (es ++ (n, s) ∷ []) x ns forgotten more) (sym d) (subst (λ x. Holds n (machine.one_more c k counts) (es ++ (n, s) ∷ []) (ps ++ (n, link_of s) ∷ []) x forgotten more) (sym e)
        (sent_holds sent counts es ps settled forgotten room n c k s more h is sound (subst (λ x. IsStrictlySortedBy nat_cmp (keys x)) b rises) fits))))
