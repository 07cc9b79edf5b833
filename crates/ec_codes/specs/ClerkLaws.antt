-- The laws of the fields that tell a clerk and its age.
use Rattle.std.proofs.Common.{ℕ, true, Option, refl, sym, ap}
use Rattle.std.specs.Prelude.{nat_lt}
use Rattle.ec_base.specs.Limits.{clerk_count}
use Rattle.ec_codes.specs.Formats.{byte, then_by}
use Rattle.ec_codes.specs.FormatLaws.{IsFormat, byte-is, such_is, then_is, standing_is}
use Rattle.ec_codes.specs.Fields.{word, long}
use Rattle.ec_codes.specs.FieldLaws.{word-is, long-is}
use Rattle.ec_codes.specs.Clerks.{clerk_field, age_parts, age_of, age_field}
use Rattle.ec_base.specs.SmallLaws.{same_some}

pub clerk-is : IsFormat clerk_field
unfolding clerk_field
clerk-is = such_is (λ n. nat_lt n clerk_count) byte byte-is

pub age-is : IsFormat age_field
unfolding age_field
age-is = standing_is age_parts (λ a. true) age_of (then_by long (λ boot. word)) (then_is long _ long-is (λ boot. word-is)) (λ a h. refl) (λ p a e. (ap age_parts (sym (same_some _ a e)), refl))
