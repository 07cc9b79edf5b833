-- The update of a rename is sound and fits, on a well-formed volume.
use Rattle.std.proofs.Common.{◌≡◌, refl, sym, ap, subst, ◌∙◌, inl, inr, arith, ◌⊎◌, ℕ, T, Bool, true, false, not, ◌==◌, ◌&&◌, ◌-◌, cond, List, [], ◌∷◌, ◌++◌, Option, Some, None}
use Rattle.std.specs.Prelude.{length, nat_le, nat_lt, is_none}
use Rattle.std.proofs.lemmas.Bool.{cases_Bool, eqb-true, true≢false}
use Rattle.ec_volume.specs.Entries.{entry, same_name}
use Rattle.ec_volume.specs.Image.{is_gone, is_dir, is_kind, is_bare, yields, entries_of}
use Rattle.ec_volume.specs.Update.{ids_of, root, member, has_room, is_sound}
use Rattle.ec_volume.specs.Volume.{Images, Names, Fits, WellFormed}
use Rattle.ec_volume.specs.declared.image.Kind.{Kind}
use Rattle.ec_volume.specs.declared.image.Kind.TheVariants as kind
use Rattle.ec_volume.specs.declared.image.Image.{Image}
use Rattle.ec_volume.specs.declared.image.Image.TheVariants.{Gone, File, Dir}
use Rattle.ec_volume.specs.declared.update.Update.{Update}
use Rattle.ec_volume.specs.declared.update.Update.TheVariants.{Move, Shift}
use Rattle.ec_plain.specs.Walk.{Path, Reached, At, Not, walk, parent_of, last_of, same_path}
use Rattle.ec_plain.specs.BoundedCalls.{is_short}
use Rattle.ec_plain.specs.Plain.{answers, refuses, issues, kind_of, blocked, above, renames, move_into, loops, rename_in, plain_rename}
use Rattle.ec_plain.specs.declared.call.Reply.TheVariants as reply
use Rattle.ec_plain.specs.declared.call.Refusal.{Refusal}
use Rattle.ec_plain.specs.declared.call.Refusal.TheVariants as no
use Rattle.ec_plain.specs.declared.call.Outcome.{Outcome}
use Rattle.ec_history.proofs.OfLaws.ForFormed.Walked.{Walked, walked, walked-last, one_way, no_own_entry}
use Rattle.ec_history.proofs.OfLaws.ForFormed.Ways.{gives-named, bare-unnamed, above-apart, above-end, above-lacks, above-bare, above-leads, above-way}
use Rattle.ec_history.proofs.OfLaws.ForFormed.Lasts.{same_name-is, parent-short, path-same}
use Rattle.ec_history.proofs.OfLaws.ForFormed.Makes.{Makes, answers-makes, refuses-makes, issues-makes, cond-makes, entry-makes}
use Rattle.ec_history.proofs.OfLaws.ForFormed.Moving.{OnVictim, move-fits, shift-fits, move-sound, shift-sound}
use Rattle.ec_base.proofs.Bools.{both, on as holds, is-true}

abbrev Fine : Images → Path → Update → Type 0
Fine v q u = (T (is_short q) → T (is_sound u)) × Fits v (u ∷ [])

unequal : (m n : ℕ) → (m ≡ n → ⊥) → (m == n) ≡ false
unequal m n h = elim (cases_Bool (m == n)) [ inl e ↦ absurd (h (eqb-true m n e)) | inr e ↦ e ]

on-victim : (P Q : ℕ → Type 0) (victim : Option ℕ) → ((t : ℕ) → P t → Q t) → OnVictim victim P → OnVictim victim Q
on-victim P Q None f h = tt
on-victim P Q (Some t) f h = f t h

kind-is : (i : Image) → T (not (is_gone i)) → T (is_kind (kind_of i) i)
kind-is Gone live = absurd live
kind-is (File m s w bs) live = tt
kind-is (Dir m s w es) live = tt

kind-dir : (i : Image) → kind_of i ≡ kind.Dir → is_dir i ≡ true
kind-dir (Dir m s w es) e = refl
kind-dir Gone e = absurd (apart e)
  where
    apart : kind.File ≡ kind.Dir → ⊥
    apart e = cc
kind-dir (File m s w bs) e = absurd (apart e)
  where
    apart : kind.File ≡ kind.Dir → ⊥
    apart e = cc

-- what doesn't block the new name may go
blocked-bare : (k : Kind) (i : Image) (n : ℕ) → blocked k i n ≡ None → T (not (is_gone i)) → T (is_bare k i)
blocked-bare k Gone n e live = absurd live
blocked-bare kind.File (File m s w bs) n e live = tt
blocked-bare kind.Dir (File m s w bs) n e live = absurd (apart e)
  where
    apart : ◌≡◌ {A = Option Refusal} (Some (no.NotDir n)) None → ⊥
    apart e = cc
blocked-bare kind.File (Dir m s w es) n e live = absurd (apart e)
  where
    apart : ◌≡◌ {A = Option Refusal} (Some no.IsDir) None → ⊥
    apart e = cc
blocked-bare kind.Dir (Dir m s w es) n e live = holds (empty (length es) (nat_lt 0 (length es)) refl e)
  where
    empty : (l : ℕ) (b : Bool) → nat_lt 0 l ≡ b → ◌≡◌ {A = Option Refusal} (cond b (Some no.NotEmpty) None) None → (l == 0) ≡ true
    empty l true p e = cc
    empty l false p e = grind arith

module _ (v : Images) (f : WellFormed v) (p q : Path) (meet : parent_of p ≡ parent_of q → last_of p ≡ last_of q → ⊥) (shorter : T (is_short q) → nat_le (length (parent_of q)) 15 ≡ true)
    (d o e : ℕ) (os ps : List ℕ) (from_root : Walked v root (parent_of p) os d) (dir : T (is_dir (v d))) (named : Names v d (last_of p) o)
    (to_root : Walked v root (parent_of q) ps e) (into : T (is_dir (v e))) (straight : loops v o ps ≡ false) where
  -- the victim has the new name, and may go
  abbrev Goes : ℕ → Type 0
  Goes t = Names v e (last_of q) t × T (is_bare (kind_of (v o)) (v t))

  d_o : (d == o) ≡ false
  d_o = unequal d o (λ s. no_own_entry v f (parent_of p) os d from_root (last_of p) (subst (λ x. Names v d (last_of p) x) (sym s) named))

  d_t : (t : ℕ) → Goes t → (d == t) ≡ false
  d_t t (new, bare) = unequal d t (λ s. bare-unnamed (kind_of (v o)) (v t) (last_of p) o bare (subst (λ x. Names v x (last_of p) o) s named))

  e_t : (t : ℕ) → Goes t → (e == t) ≡ false
  e_t t (new, bare) = unequal e t (λ s. no_own_entry v f (parent_of q) ps e to_root (last_of q) (subst (λ x. Names v e (last_of q) x) (sym s) new))

  -- the names differ, or the directories do
  two : d ≡ e → last_of p ≡ last_of q → ⊥
  two s names = meet (one_way v f (parent_of p) (parent_of q) os ps d from_root (subst (λ x. Walked v root (parent_of q) ps x) (sym s) to_root)).0 names

  o_t : (t : ℕ) → Goes t → (o == t) ≡ false
  o_t t (new, bare) = unequal o t (λ s. let (dirs, names) = f.once t d e (last_of p) (last_of q) (subst (λ x. Names v d (last_of p) x) s named) new in two dirs names)

  e_o : (e == o) ≡ false
  e_o = unequal e o (λ s.
      let is_one = is-true (is_dir (v o)) (subst (λ x. T (is_dir (v x))) s into) in
      true≢false (sym (is-true (member e ps) (walked-last v root (parent_of q) ps e to_root)) ∙ ap (λ x. member x ps) s ∙ ap (λ b. b && member o ps) (sym is_one) ∙ straight))

  o_up : member o (ids_of (above (kind_of (v o)) ps (parent_of q))) ≡ false
  o_up = above-lacks v f (parent_of q) ps e to_root (kind_of (v o)) o (λ s. ap (λ b. b && member o ps) (sym (kind-dir (v o) s)) ∙ straight)

  live : T (not (is_gone (v o)))
  live = f.live o d (last_of p) named

  bare-goes : (victim : Option ℕ) → OnVictim victim Goes → OnVictim victim (λ t. T (is_bare (kind_of (v o)) (v t)))
  bare-goes victim goes = on-victim Goes (λ t. T (is_bare (kind_of (v o)) (v t))) victim (λ t g. g.1) goes

  moved : (victim : Option ℕ) → T (yields (last_of q) victim (v e)) → OnVictim victim Goes → (d == e) ≡ true → Fine v q (Move d (last_of p) (last_of q) o (kind_of (v o)) victim)
  moved victim yield goes s =
      let one : d ≡ e = eqb-true d e s in (
        λ short. move-sound d (last_of p) (last_of q) o (kind_of (v o)) victim d_o (on-victim Goes (λ t. ((d == t) ≡ false) × ((o == t) ≡ false)) victim (λ t g. (d_t t g, o_t t g)) goes) (other one (cases_Bool (same_name (last_of p) (last_of q)))),
        move-fits v d (last_of p) o (last_of q) (kind_of (v o)) victim dir named (kind-is (v o) live) (bare-goes victim goes) (subst (λ x. T (yields (last_of q) victim (v x))) (sym one) yield),
      )
    where
      other : d ≡ e → (same_name (last_of p) (last_of q) ≡ true) ⊎ (same_name (last_of p) (last_of q) ≡ false) → same_name (last_of p) (last_of q) ≡ false
      other one (inl s) = absurd (two one (same_name-is (last_of p) (last_of q) (holds s)))
      other one (inr s) = s

  shifted : (victim : Option ℕ) → T (yields (last_of q) victim (v e)) → T (has_room victim (v e)) → OnVictim victim Goes → (d == e) ≡ false
      → Fine v q (Shift d (last_of p) e (last_of q) o (kind_of (v o)) victim (above (kind_of (v o)) ps (parent_of q)))
  shifted victim yield room goes s = (
    λ short. shift-sound d (last_of p) e (last_of q) o (kind_of (v o)) victim (above (kind_of (v o)) ps (parent_of q)) s d_o e_o
        (on-victim Goes (λ t. ((d == t) ≡ false) × ((e == t) ≡ false) × ((o == t) ≡ false)) victim (λ t g. (d_t t g, e_t t g, o_t t g)) goes)
        (above-apart v f (parent_of q) ps e to_root (kind_of (v o))) (above-end v f (parent_of q) ps e to_root (kind_of (v o))) o_up
        (on-victim Goes (λ t. member t (ids_of (above (kind_of (v o)) ps (parent_of q))) ≡ false) victim (λ t g. above-bare v f (parent_of q) ps e to_root (kind_of (v o)) t g.1) goes)
        (above-way v f (parent_of q) ps e to_root (kind_of (v o)) (shorter short)),
    shift-fits v d (last_of p) o (last_of q) (kind_of (v o)) victim dir named (kind-is (v o) live) (bare-goes victim goes) e (above (kind_of (v o)) ps (parent_of q)) yield room
        (above-leads v f (parent_of q) ps e to_root (kind_of (v o))),
  )

  renamed : (victim : Option ℕ) (rs : List ℕ) → T (yields (last_of q) victim (v e)) → ((d == e) ≡ false → T (has_room victim (v e))) → OnVictim victim Goes
      → Makes (Fine v q) (renames d (last_of p) e (last_of q) o (kind_of (v o)) victim (above (kind_of (v o)) ps (parent_of q)) rs)
  renamed victim rs yield room goes =
      let move = Move d (last_of p) (last_of q) o (kind_of (v o)) victim in
      let shift = Shift d (last_of p) e (last_of q) o (kind_of (v o)) victim (above (kind_of (v o)) ps (parent_of q)) in
      cond-makes (Fine v q) (d == e) (issues move rs) (issues shift rs)
      (λ s. issues-makes (Fine v q) move rs (moved victim yield goes s))
      (λ s. issues-makes (Fine v q) shift rs (shifted victim yield (room s) goes s))

  to-free : entry (entries_of (v e)) (last_of q) ≡ None → T (yields (last_of q) None (v e))
  to-free new = both (is_dir (v e)) (is_none (entry (entries_of (v e)) (last_of q))) into (subst (λ x. T (is_none x)) (sym new) tt)

  to-victim : (t : ℕ) (b : Option Refusal) (rs : List ℕ) → Names v e (last_of q) t → blocked (kind_of (v o)) (v t) (length q) ≡ b
      → Makes (Fine v q) (elim b [ Some r ↦ refuses r (rs ++ t ∷ []) | None ↦ renames d (last_of p) e (last_of q) o (kind_of (v o)) (Some t) (above (kind_of (v o)) ps (parent_of q)) (rs ++ t ∷ []) ])
  to-victim t (Some r) rs new free = refuses-makes (Fine v q) r (rs ++ t ∷ [])
  to-victim t None rs new free =
      renamed (Some t) (rs ++ t ∷ []) (gives-named v e (last_of q) t into new) (λ s. tt)
      (new, blocked-bare (kind_of (v o)) (v t) (length q) free (f.live t e (last_of q) new))

  pub into-makes : (rs : List ℕ) → Makes (Fine v q) (move_into v p q d o e (entries_of (v e)) ps rs)
  into-makes rs = go (entry (entries_of (v e)) (last_of q)) refl
    where
      fewer : (a b : Bool) → (not a && b) ≡ false → a ≡ false → b ≡ false
      fewer a b h s = ap (λ x. not x && b) (sym s) ∙ h

      room : (l : ℕ) → nat_le 128 l ≡ false → nat_lt l 128 ≡ true
      room l h = grind arith

      go : (x : Option ℕ) → entry (entries_of (v e)) (last_of q) ≡ x → Makes (Fine v q) (elim x [
        | None ↦ cond (not (d == e) && nat_le 128 (length (entries_of (v e)))) (refuses no.DirFull rs) (renames d (last_of p) e (last_of q) o (kind_of (v o)) None (above (kind_of (v o)) ps (parent_of q)) rs)
        | Some t ↦ elim (blocked (kind_of (v o)) (v t) (length q)) [
          | Some r ↦ refuses r (rs ++ t ∷ [])
          | None ↦ renames d (last_of p) e (last_of q) o (kind_of (v o)) (Some t) (above (kind_of (v o)) ps (parent_of q)) (rs ++ t ∷ [])
        ]
      ])
      go None new =
          cond-makes (Fine v q) (not (d == e) && nat_le 128 (length (entries_of (v e)))) (refuses no.DirFull rs) (renames d (last_of p) e (last_of q) o (kind_of (v o)) None (above (kind_of (v o)) ps (parent_of q)) rs)
          (λ full. refuses-makes (Fine v q) no.DirFull rs)
          (λ h. renamed None rs (to-free new) (λ s. holds (room (length (entries_of (v e))) (fewer (d == e) (nat_le 128 (length (entries_of (v e)))) h s))) tt)
      go (Some t) new = to-victim t (blocked (kind_of (v o)) (v t) (length q)) rs new refl

module _ (v : Images) (f : WellFormed v) (p q : Path) (meet : same_path p q ≡ false → parent_of p ≡ parent_of q → last_of p ≡ last_of q → ⊥) (shorter : T (is_short q) → nat_le (length (parent_of q)) 15 ≡ true)
    (d o : ℕ) (os : List ℕ) (from_root : Walked v root (parent_of p) os d) (dir : T (is_dir (v d))) (named : Names v d (last_of p) o) where
  abbrev moved_to : List ℕ → List ℕ → Reached → Outcome
  moved_to ps rs (Not r) = refuses r (rs ++ ps)
  moved_to ps rs (At e) =
      cond (not (is_dir (v e))) (refuses (no.NotDir (length q - 1)) (rs ++ ps)) (cond (loops v o ps) (refuses no.Loop (rs ++ ps)) (move_into v p q d o e (entries_of (v e)) ps (rs ++ ps)))

  reached : same_path p q ≡ false → (ps rs : List ℕ) (r : Reached) → ((e : ℕ) → r ≡ At e → Walked v root (parent_of q) ps e) → Makes (Fine v q) (moved_to ps rs r)
  reached apart ps rs (Not r) h = refuses-makes (Fine v q) r (rs ++ ps)
  reached apart ps rs (At e) h =
      cond-makes (Fine v q) (not (is_dir (v e))) (refuses (no.NotDir (length q - 1)) (rs ++ ps)) (cond (loops v o ps) (refuses no.Loop (rs ++ ps)) (move_into v p q d o e (entries_of (v e)) ps (rs ++ ps)))
      (λ s. refuses-makes (Fine v q) (no.NotDir (length q - 1)) (rs ++ ps))
      (λ s. cond-makes (Fine v q) (loops v o ps) (refuses no.Loop (rs ++ ps)) (move_into v p q d o e (entries_of (v e)) ps (rs ++ ps))
      (λ l. refuses-makes (Fine v q) no.Loop (rs ++ ps))
      (λ l. into-makes v f p q (meet apart) shorter d o e os ps from_root dir named (h e refl) (yes (is_dir (v e)) s) l (rs ++ ps)))
    where
      yes : (b : Bool) → not b ≡ false → T b
      yes true s = tt
      yes false s = absurd (true≢false s)

  pub rename-makes : (rs : List ℕ) → Makes (Fine v q) (rename_in v p q d (entries_of (v d)) o rs)
  rename-makes rs =
      cond-makes (Fine v q) (same_path p q) (answers reply.Ok rs) (moved_to (walk v (parent_of q)).read rs (walk v (parent_of q)).to)
      (λ s. answers-makes (Fine v q) reply.Ok rs)
      (λ s. reached s (walk v (parent_of q)).read rs (walk v (parent_of q)).to (λ e at. walked v 0 root (parent_of q) e at))

pub rename-fine : (v : Images) → WellFormed v → (p q : Path) (u : Update) → (plain_rename v p q).update ≡ Some u → (T (is_short q) → T (is_sound u)) × Fits v (u ∷ [])
rename-fine v f [] q = refuses-makes (Fine v q) no.Root []
rename-fine v f (a ∷ as') [] = refuses-makes (Fine v []) no.Root []
rename-fine v f (a ∷ as') (b ∷ bs) =
    entry-makes (Fine v (b ∷ bs)) v (a ∷ as') (rename_in v (a ∷ as') (b ∷ bs))
    (λ d o os at dir named live. rename-makes v f (a ∷ as') (b ∷ bs) (λ apart above last. true≢false (sym (path-same a as' b bs above last) ∙ apart)) (parent-short b bs)
    d o (walk v (parent_of (a ∷ as'))).read (walked v 0 root (parent_of (a ∷ as')) d at) (holds dir) named os)
