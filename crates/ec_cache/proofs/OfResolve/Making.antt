-- What a call makes of a fresh id: it makes an object with it, or doesn't look at it.
use Rattle.std.proofs.Common.{◌≡◌, ◌∙◌, refl, sym, ap, inl, inr, ◌⊎◌, ◌+◌, ◌-◌, ℕ, T, Bool, true, false, not, ◌==◌, ◌&&◌, cond, List, [], ◌∷◌, ◌++◌, suc, map, length, Option, Some, None}
use Rattle.std.specs.Prelude.{is_some, nat_lt, nat_le, take, drop}
use Rattle.ec_base.specs.Tables.{first, or_else}
use Rattle.ec_base.specs.declared.ids.Hold.TheVariants.{Read, Write}
use Rattle.ec_volume.specs.Entries.{Entries, entry}
use Rattle.ec_volume.specs.Image.{entries_of, bytes_of, is_gone, is_dir}
use Rattle.ec_volume.specs.Update.{Above, member, root, is_make}
use Rattle.ec_volume.specs.Volume.{Images}
use Rattle.ec_volume.specs.declared.image.Kind.{Kind}
use Rattle.ec_volume.specs.declared.image.Kind.TheVariants as kind
use Rattle.ec_volume.specs.declared.update.Update.{Update}
use Rattle.ec_volume.specs.declared.update.Update.TheVariants.{Make, Drop, Move, Put, Len, Mode, Stamp, Order, Shift, Owner}
use Rattle.ec_plain.specs.Walk.{Path, Reached, At, Not, Walk, walk, parent_of, last_of, same_path}
use Rattle.ec_plain.specs.Plain.{on_reached, on_entry, answers, refuses, issues, plain, plain_make, plain_drop, plain_rename, plain_forder, once_more, blocked, kind_of, make_in, drop_in, above, renames, move_into, loops, rename_in, write_in, len_in, read_in, list_in, stat_of}
use Rattle.ec_plain.specs.declared.call.Call.{Call}
use Rattle.ec_plain.specs.declared.call.Call.TheVariants as call
use Rattle.ec_plain.specs.declared.call.Reply.{Reply}
use Rattle.ec_plain.specs.declared.call.Reply.TheVariants as reply
use Rattle.ec_plain.specs.declared.call.Refusal.{Refusal}
use Rattle.ec_plain.specs.declared.call.Refusal.TheVariants as no
use Rattle.ec_plain.specs.declared.call.Outcome.{Outcome}
use Rattle.ec_cache.specs.Cache.{holds, images_held}
use Rattle.ec_cache.specs.declared.state.CacheState.{CacheState}
use Rattle.ec_cache.specs.OfReport.Report.{Owed, due}
use Rattle.ec_cache.specs.OfResolve.Resolve.{judged, in_order, lacking, lacks_id, seen, first_unread, met, reported}
use Rattle.ec_cache.specs.declared.resolve.verdict.Verdict.{Verdict}
use Rattle.ec_cache.specs.declared.resolve.verdict.Verdict.TheVariants.{Need, NeedIds}
use Rattle.ec_base.proofs.Numbers.{one-less}

-- the update makes an object
abbrev pub is_made : Option Update → Bool
is_made None = false
is_made (Some u) = is_make u

-- Calls without a make.

pub record Unmade (out : Outcome) : Type 0 where
  pub none : is_made out.update ≡ false

unmade-cond : (b : Bool) {x y : Outcome} → Unmade x → Unmade y → Unmade (cond b x y)
unmade-cond true p q = p
unmade-cond false p q = q

unmade-answers : (r : Reply) (os : List ℕ) → Unmade (answers r os)
unmade-answers r os = record { none = refl }

unmade-refuses : (r : Refusal) (os : List ℕ) → Unmade (refuses r os)
unmade-refuses r os = record { none = refl }

unmade-issues : (u : Update) (os : List ℕ) → is_make u ≡ false → Unmade (issues u os)
unmade-issues u os e = record { none = e }

unmade-reached : (w : Walk) (f : ℕ → List ℕ → Outcome) → ((o : ℕ) (os : List ℕ) → Unmade (f o os)) → Unmade (on_reached w f)
unmade-reached w f h = go w.to
  where
    go : (r : Reached) → Unmade (elim r [ At o ↦ f o w.read | Not n ↦ refuses n w.read ])
    go (At o) = h o w.read
    go (Not n) = unmade-refuses n w.read

module _ (v : Images) where
  unmade-entry : (p : Path) (f : ℕ → Entries → ℕ → List ℕ → Outcome) → ((d : ℕ) (es : Entries) (o : ℕ) (os : List ℕ) → Unmade (f d es o os)) → Unmade (on_entry v p f)
  unmade-entry p f h =
      unmade-reached (walk v (parent_of p)) _ (λ d os. unmade-cond (is_dir (v d)) (go d (entries_of (v d)) os (entry (entries_of (v d)) (last_of p))) (unmade-refuses (no.NotDir (length p - 1)) os))
    where
      go : (d : ℕ) (es : Entries) (os : List ℕ) (x : Option ℕ) → Unmade (elim x [
        | None ↦ refuses (no.NotFound (length p)) os
        | Some o ↦ cond (is_gone (v o)) (refuses (no.NotFound (length p)) (os ++ o ∷ [])) (f d es o (os ++ o ∷ []))
      ])
      go d es os None = unmade-refuses (no.NotFound (length p)) os
      go d es os (Some o) = unmade-cond (is_gone (v o)) (unmade-refuses (no.NotFound (length p)) (os ++ o ∷ [])) (h d es o (os ++ o ∷ []))

  unmade-drop : (k : Kind) (p : Path) → Unmade (plain_drop v k p)
  unmade-drop k [] = unmade-refuses no.Root []
  unmade-drop k (n ∷ ns) = unmade-entry (n ∷ ns) (drop_in v k (n ∷ ns)) (inside k (n ∷ ns))
    where
      inside : (k : Kind) (p : Path) (d : ℕ) (es : Entries) (o : ℕ) (os : List ℕ) → Unmade (drop_in v k p d es o os)
      inside kind.File p d es o os = unmade-cond (is_dir (v o)) (unmade-refuses no.IsDir os) (unmade-issues (Drop d (last_of p) o kind.File) os refl)
      inside kind.Dir p d es o os =
          unmade-cond (not (is_dir (v o))) (unmade-refuses (no.NotDir (length p)) os)
          (unmade-cond (nat_lt 0 (length (entries_of (v o)))) (unmade-refuses no.NotEmpty os) (unmade-issues (Drop d (last_of p) o kind.Dir) os refl))

  unmade-renames : (d : ℕ) (from : List ℕ) (e : ℕ) (to : List ℕ) (o : ℕ) (k : Kind) (victim : Option ℕ) (up : Above) (os : List ℕ) → Unmade (renames d from e to o k victim up os)
  unmade-renames d from e to o k victim up os = unmade-cond (d == e) (unmade-issues (Move d from to o k victim) os refl) (unmade-issues (Shift d from e to o k victim up) os refl)

  unmade-move : (p q : Path) (d o e : ℕ) (fs : Entries) (ps os : List ℕ) → Unmade (move_into v p q d o e fs ps os)
  unmade-move p q d o e fs ps os = go (kind_of (v o)) (entry fs (last_of q))
    where
      inner : (k : Kind) (t : ℕ) (b : Option Refusal) → Unmade (elim b [
        | Some r ↦ refuses r (os ++ t ∷ [])
        | None ↦ renames d (last_of p) e (last_of q) o k (Some t) (above k ps (parent_of q)) (os ++ t ∷ [])
      ])
      inner k t (Some r) = unmade-refuses r (os ++ t ∷ [])
      inner k t None = unmade-renames d (last_of p) e (last_of q) o k (Some t) (above k ps (parent_of q)) (os ++ t ∷ [])

      go : (k : Kind) (x : Option ℕ) → Unmade (elim x [
        | None ↦ cond (not (d == e) && nat_le 128 (length fs)) (refuses no.DirFull os) (renames d (last_of p) e (last_of q) o k None (above k ps (parent_of q)) os)
        | Some t ↦ elim (blocked k (v t) (length q)) [
          | Some r ↦ refuses r (os ++ t ∷ [])
          | None ↦ renames d (last_of p) e (last_of q) o k (Some t) (above k ps (parent_of q)) (os ++ t ∷ [])
        ]
      ])
      go k None = unmade-cond (not (d == e) && nat_le 128 (length fs)) (unmade-refuses no.DirFull os) (unmade-renames d (last_of p) e (last_of q) o k None (above k ps (parent_of q)) os)
      go k (Some t) = inner k t (blocked k (v t) (length q))

  unmade-rename : (p q : Path) → Unmade (plain_rename v p q)
  unmade-rename [] q = unmade-refuses no.Root []
  unmade-rename (a ∷ as') [] = unmade-refuses no.Root []
  unmade-rename (a ∷ as') (b ∷ bs) = unmade-entry (a ∷ as') (rename_in v (a ∷ as') (b ∷ bs)) (inside (a ∷ as') (b ∷ bs))
    where
      inside : (p q : Path) (d : ℕ) (es : Entries) (o : ℕ) (os : List ℕ) → Unmade (rename_in v p q d es o os)
      inside p q d es o os = unmade-cond (same_path p q) (unmade-answers reply.Ok os) (go (walk v (parent_of q)).to (walk v (parent_of q)).read)
        where
          go : (r : Reached) (ps : List ℕ) → Unmade (elim r [
            | Not n ↦ refuses n (os ++ ps)
            | At e ↦ cond (not (is_dir (v e))) (refuses (no.NotDir (length q - 1)) (os ++ ps)) (cond (loops v o ps) (refuses no.Loop (os ++ ps)) (move_into v p q d o e (entries_of (v e)) ps (os ++ ps)))
          ])
          go (Not n) ps = unmade-refuses n (os ++ ps)
          go (At e) ps =
              unmade-cond (not (is_dir (v e))) (unmade-refuses (no.NotDir (length q - 1)) (os ++ ps))
              (unmade-cond (loops v o ps) (unmade-refuses no.Loop (os ++ ps)) (unmade-move p q d o e (entries_of (v e)) ps (os ++ ps)))

  unmade-forder : (ps : List Path) (objs os : List ℕ) → Unmade (plain_forder v ps objs os)
  unmade-forder [] objs os = unmade-issues (Order objs) os refl
  unmade-forder (p ∷ ps) objs os =
      elim ((walk v p).to) as (λ t. Unmade (elim t [ At o ↦ plain_forder v ps (once_more o objs) (os ++ (walk v p).read) | Not r ↦ refuses r (os ++ (walk v p).read) ])) [
        | At o ↦ unmade-forder ps (once_more o objs) (os ++ (walk v p).read)
        | Not r ↦ unmade-refuses r (os ++ (walk v p).read)
      ]

-- Outcomes by the fresh id.

abbrev pub IsSteady : (ℕ → Outcome) → Type 0
IsSteady f = ((x y : ℕ) → f x ≡ f y) × ((x : ℕ) → Unmade (f x))

-- an object is made with the id, which is read last; the walk to it began at the root
pub record IsMaking (f : ℕ → Outcome) : Type 0 where
  pub dir : ℕ
  pub name : List ℕ
  pub kind : Kind
  pub read : List ℕ
  pub comes : (fresh : ℕ) → f fresh ≡ issues (Make dir name fresh kind) (read ++ fresh ∷ [])
  pub rooted : T (member root read)

abbrev pub Either : (ℕ → Outcome) → Type 0
Either f = IsSteady f ⊎ IsMaking f

either-cond : (b : Bool) (f g : ℕ → Outcome) → Either f → Either g → Either (λ x. cond b (f x) (g x))
either-cond true f g p q = p
either-cond false f g p q = q

either-refuses : (r : Refusal) (os : List ℕ) → Either (λ x. refuses r os)
either-refuses r os = inl (λ x y. refl, λ x. unmade-refuses r os)

either-reached : (w : Walk) (f : ℕ → ℕ → List ℕ → Outcome) → T (member root w.read) → ((o : ℕ) (os : List ℕ) → T (member root os) → Either (λ x. f x o os)) → Either (λ x. on_reached w (f x))
either-reached w f m h = go w.to
  where
    go : (r : Reached) → Either (λ x. elim r [ At o ↦ f x o w.read | Not n ↦ refuses n w.read ])
    go (At o) = h o w.read m
    go (Not n) = either-refuses n w.read

either-make_in : (k : Kind) (n : List ℕ) (d : ℕ) (es : Entries) (os : List ℕ) → T (member root os) → Either (λ x. make_in k n x d es os)
either-make_in k n d es os m =
    either-cond (is_some (entry es n)) (λ x. refuses no.Exists os) (λ x. cond (nat_le 128 (length es)) (refuses no.DirFull os) (issues (Make d n x k) (os ++ x ∷ []))) (either-refuses no.Exists os)
    (either-cond (nat_le 128 (length es)) (λ x. refuses no.DirFull os) (λ x. issues (Make d n x k) (os ++ x ∷ [])) (either-refuses no.DirFull os)
    (inr (record { dir = d; name = n; kind = k; read = os; comes = λ x. refl; rooted = m })))

module _ (v : Images) where
  root-read : (p : Path) → T (member root (walk v p).read)
  root-read [] = tt
  root-read (n ∷ ns) = tt

  either-make : (k : Kind) (p : Path) → Either (λ x. plain_make v k p x)
  either-make k [] = either-refuses no.Root []
  either-make k (n ∷ ns) =
      either-reached (walk v (parent_of (n ∷ ns))) (λ x d os. cond (is_dir (v d)) (make_in k (last_of (n ∷ ns)) x d (entries_of (v d)) os) (refuses (no.NotDir (length (n ∷ ns) - 1)) os))
      (root-read (parent_of (n ∷ ns)))
      (λ d os m. either-cond (is_dir (v d)) (λ x. make_in k (last_of (n ∷ ns)) x d (entries_of (v d)) os) (λ x. refuses (no.NotDir (length (n ∷ ns) - 1)) os)
      (either-make_in k (last_of (n ∷ ns)) d (entries_of (v d)) os m) (either-refuses (no.NotDir (length (n ∷ ns) - 1)) os))

  -- an update or an answer where a path leads
  at-end : (p : Path) (f : ℕ → List ℕ → Outcome) → ((o : ℕ) (os : List ℕ) → Unmade (f o os)) → Either (λ x. on_reached (walk v p) f)
  at-end p f h = inl (λ x y. refl, λ x. unmade-reached (walk v p) f h)

  pub either-plain : (cl : Call) → Either (plain v cl)
  either-plain (call.Mkdir p) = either-make kind.Dir p
  either-plain (call.Create p) = either-make kind.File p
  either-plain (call.Write p at bytes) =
      at-end p (write_in v at bytes) (λ o os. unmade-cond (is_dir (v o)) (unmade-refuses no.IsDir os)
      (unmade-cond (nat_lt 65536 (at + length bytes)) (unmade-refuses no.TooLong os) (unmade-issues (Put o at bytes (nat_le (at + length bytes) (length (bytes_of (v o))))) os refl)))
  either-plain (call.SetLen p len) =
      at-end p (len_in v len) (λ o os. unmade-cond (is_dir (v o)) (unmade-refuses no.IsDir os) (unmade-cond (nat_lt 65536 len) (unmade-refuses no.TooLong os) (unmade-issues (Len o len) os refl)))
  either-plain (call.Read p at count) = at-end p (read_in v at count) (λ o os. unmade-cond (is_dir (v o)) (unmade-refuses no.IsDir os) (unmade-answers (reply.Data (take count (drop at (bytes_of (v o))))) os))
  either-plain (call.Chmod p mode) = at-end p (λ o os. issues (Mode o mode) os) (λ o os. unmade-issues (Mode o mode) os refl)
  either-plain (call.Touch p stamp) = at-end p (λ o os. issues (Stamp o stamp) os) (λ o os. unmade-issues (Stamp o stamp) os refl)
  either-plain (call.Stat p) = at-end p (λ o os. answers (stat_of (v o)) os) (λ o os. unmade-answers (stat_of (v o)) os)
  either-plain (call.List p) = at-end p (list_in v p) (λ o os. unmade-cond (is_dir (v o)) (unmade-answers (reply.Names (map (λ e. e.0) (entries_of (v o)))) os) (unmade-refuses (no.NotDir (length p)) os))
  either-plain (call.Remove p) = inl (λ x y. refl, λ x. unmade-drop v kind.File p)
  either-plain (call.Rmdir p) = inl (λ x y. refl, λ x. unmade-drop v kind.Dir p)
  either-plain (call.Rename p q) = inl (λ x y. refl, λ x. unmade-rename v p q)
  either-plain (call.Fsync p) = at-end p (λ o os. answers reply.Ok os) (λ o os. unmade-answers reply.Ok os)
  either-plain (call.Forder ps) = inl (λ x y. refl, λ x. unmade-forder v ps [] [])
  either-plain call.Sync = inl (λ x y. refl, λ x. unmade-answers reply.Ok [])
  either-plain (call.Chown p owner) = at-end p (λ o os. issues (Owner o owner) os) (λ o os. unmade-issues (Owner o owner) os refl)

-- A verdict without an id doesn't tell which one stands in for it.

length-last : (os : List ℕ) (x : ℕ) → length (os ++ x ∷ []) ≡ suc (length os)
length-last [] x = refl
length-last (o ∷ os) x = ap suc (length-last os x)

taken-last : (os : List ℕ) (x : ℕ) → take (length os) (os ++ x ∷ []) ≡ os
taken-last [] x = refl
taken-last (o ∷ os) x = ap (λ ps. o ∷ ps) (taken-last os x)

pub front-of : (os : List ℕ) (x : ℕ) → take (length (os ++ x ∷ []) - 1) (os ++ x ∷ []) ≡ os
front-of os x = ap (λ n. take (n - 1) (os ++ x ∷ [])) (length-last os x) ∙ ap (λ n. take n (os ++ x ∷ [])) (sym (one-less (length os))) ∙ taken-last os x

pub judged_alike : (k : CacheState) (owed : Owed) (cl : Call) (fresh : Option ℕ) → judged k owed cl fresh (plain (images_held k) cl (or_else 1 fresh)) ≡ judged k owed cl fresh (plain (images_held k) cl (or_else 0 fresh))
judged_alike k owed cl (Some x) = refl
judged_alike k owed cl None = elim (either-plain (images_held k) cl) [
  | inl e ↦ ap (judged k owed cl None) (e.0 1 0)
  | inr m ↦ ap (judged k owed cl None) (m.comes 1) ∙ stands m 1 ∙ sym (stands m 0) ∙ sym (ap (judged k owed cl None) (m.comes 0))
]
  where
    -- what a make lacks without an id
    idless : ℕ → List ℕ → Verdict
    idless dir os = elim (first (λ x. not (holds x Write k)) (dir ∷ [])) [ Some x ↦ Need x Write | None ↦ NeedIds os ]

    stands : (m : IsMaking (plain (images_held k) cl)) (x : ℕ) → judged k owed cl None (issues (Make m.dir m.name x m.kind) (m.read ++ x ∷ [])) ≡ in_order k owed cl None m.read (idless m.dir m.read)
    stands m x = ap (λ os. in_order k owed cl None os (idless m.dir os)) (front-of m.read x)

-- Nothing has to be read or reported before the update.

pub passes : (k : CacheState) (owed : Owed) (cl : Call) (fresh : Option ℕ) (xs : List ℕ) (rest : Verdict) → first_unread k fresh xs ≡ None → reported (due (met owed cl xs) owed) (met owed cl xs) ≡ None → rest ≡ in_order k owed cl fresh xs rest
passes k owed cl fresh xs rest unread lost =
    sym (ap (λ o. elim o as (λ _. Verdict) [ Some x ↦ Need x Read | None ↦ or_else rest (reported (due (met owed cl xs) owed) (met owed cl xs)) ]) unread ∙ ap (or_else rest) lost)

pub goes_on : (k : CacheState) (owed : Owed) (cl : Call) (fresh : Option ℕ) (out : Outcome) (idless : Bool) (found : Option Verdict) → idless ≡ lacks_id fresh out.update → ((rest : Verdict) → or_else rest found ≡ in_order k owed cl fresh (seen idless out.touched) rest)
    → or_else (lacking k idless out) found ≡ judged k owed cl fresh out
goes_on k owed cl fresh out idless found is these = these (lacking k idless out) ∙ ap (λ b. in_order k owed cl fresh (seen b out.touched) (lacking k b out)) is
