-- Updates that leave the entries, what is live and the directories alone.
use Rattle.std.proofs.Common.{◌≡◌, refl, sym, subst, inr, ℕ, T, Bool, true, false, not, cond, List, Some}
use Rattle.std.specs.Bool.{⊤}
use Rattle.std.specs.FinMap.{is_sorted}
use Rattle.ec_volume.specs.Entries.{by_bytes, entry}
use Rattle.ec_volume.specs.Image.{is_gone, is_dir, entries_of, with_bytes, with_mode, with_stamp, with_owner}
use Rattle.ec_volume.specs.Update.{root}
use Rattle.ec_volume.specs.Volume.{Images, WellFormed}
use Rattle.ec_volume.specs.declared.image.Image.{Image}
use Rattle.ec_volume.specs.declared.image.Image.TheVariants.{Gone, File, Dir}
use Rattle.ec_history.proofs.OfLaws.ForFormed.Change.{Change}

pub record SameFrame (i j : Image) : Type 0 where
  pub entries : entries_of j ≡ entries_of i
  pub gone : is_gone j ≡ is_gone i
  pub dir : is_dir j ≡ is_dir i

pub same-entries : (v w : Images) → ((o : ℕ) → SameFrame (v o) (w o)) → WellFormed v → Change v w (λ d n o. ⊥) (λ o. ⊤)
same-entries v w s f =
    record {
      maps = λ d. subst (λ x. T (is_sorted by_bytes x)) (sym ((s d).entries)) (f.maps d);
      root_is_dir = subst T (sym ((s root).dir)) f.root_is_dir;
      split = λ d n o h. inr (subst (λ x. entry x n ≡ Some o) ((s d).entries) h, tt);
      there = λ d n o x. absurd x;
      stays = λ d n o h t. subst (λ x. entry x n ≡ Some o) (sym ((s d).entries)) h;
      one = λ d e m n o p x y. absurd x;
      away = λ d n o x t. x;
      no_root = λ d n x. x;
      new_live = λ d n o x. absurd x;
      live_up = λ o l t. subst (λ b. T (not b)) (sym ((s o).gone)) l;
      live_down = λ o l. inr (subst (λ b. T (not b)) ((s o).gone) l, tt);
    }

pub same-frame : (b : Bool) (i j : Image) → SameFrame i j → SameFrame i (cond b j i)
same-frame true i j f = f
same-frame false i j f = record { entries = refl; gone = refl; dir = refl }

pub same-frame-self : (i : Image) → SameFrame i i
same-frame-self i = record { entries = refl; gone = refl; dir = refl }

pub bytes-frame : (f : List ℕ → List ℕ) (i : Image) → SameFrame i (with_bytes f i)
bytes-frame f Gone = record { entries = refl; gone = refl; dir = refl }
bytes-frame f (File m s w bs) = record { entries = refl; gone = refl; dir = refl }
bytes-frame f (Dir m s w es) = record { entries = refl; gone = refl; dir = refl }

pub mode-frame : (m : ℕ) (i : Image) → SameFrame i (with_mode m i)
mode-frame n Gone = record { entries = refl; gone = refl; dir = refl }
mode-frame n (File m s w bs) = record { entries = refl; gone = refl; dir = refl }
mode-frame n (Dir m s w es) = record { entries = refl; gone = refl; dir = refl }

pub stamp-frame : (m : ℕ) (i : Image) → SameFrame i (with_stamp m i)
stamp-frame n Gone = record { entries = refl; gone = refl; dir = refl }
stamp-frame n (File m s w bs) = record { entries = refl; gone = refl; dir = refl }
stamp-frame n (Dir m s w es) = record { entries = refl; gone = refl; dir = refl }

pub owner-frame : (m : ℕ) (i : Image) → SameFrame i (with_owner m i)
owner-frame n Gone = record { entries = refl; gone = refl; dir = refl }
owner-frame n (File m s w bs) = record { entries = refl; gone = refl; dir = refl }
owner-frame n (Dir m s w es) = record { entries = refl; gone = refl; dir = refl }
