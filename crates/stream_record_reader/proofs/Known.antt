-- What the table has for a record whose kind is known.
use Rattle.std.specs.Prelude.{◌≡◌, refl, ℕ, List, false, eqb}
use Rattle.std.proofs.Common.{sym, ap, ◌∙◌}
use borrow.Author.Tests.{ne_eqb}
use Rattle.laws.specs.Laws.Checks.{gives_yes, gives_no, then_first, then_next}
use Rattle.stream_format.specs.Kinds.{Unknown, PreferenceRecord, NamedRecord, RunRecord, kinds, kind_of}
use Rattle.stream_format.specs.Read.{constructor_of}
use Rattle.stream_format.specs.RecordKind.{row_of}
use Rattle.stream_format.specs.Laws.RecordKind.{known}
use Rattle.stream_format.specs.declared.RecordKind.{RecordKind}
use Rattle.stream_format.specs.declared.RecordKind.TheVariants.{Lowest, Highest, Around, Between, Layered, Named, Run}
use Rattle.stream_format.specs.declared.RecordKind.TheVariants.{BetweenTrivial}

-- its checks in their order
pub ruleset in_order = (gives_yes, gives_no, then_first, then_next, known)

-- its class
pub of_named : (row_of Named).class ≡ NamedRecord
unfolding kind_of kinds
of_named = refl

pub of_run : (row_of Run).class ≡ RunRecord
unfolding kind_of kinds
of_run = refl

pub of_wish : (k : RecordKind) → (k ≡ Named → ⊥) → (k ≡ Run → ⊥) → (row_of k).class ≡ PreferenceRecord
unfolding kind_of kinds
of_wish Lowest n r = refl
of_wish Highest n r = refl
of_wish Around n r = refl
of_wish Between n r = refl
of_wish Layered n r = refl
of_wish Named n r = absurd (n refl)
of_wish Run n r = absurd (r refl)
of_wish BetweenTrivial n r = refl

pub ruleset classes = (of_named, of_run, of_wish)

-- its figures' checks
pub ruleset figures = (gives_yes, gives_no, of_named, of_run, of_wish)

-- a byte that is no kind's is none of the forms', and so read as LAYERED
other : (k byte : ℕ) → (kind_of k).class ≡ PreferenceRecord → (kind_of byte).class ≡ Unknown
    → eqb byte k ≡ false
other k byte f e =
    ne_eqb byte k
    (λ q. let z : PreferenceRecord ≡ Unknown = sym f ∙ ap (λ (n : ℕ). (kind_of n).class) (sym q) ∙ e in cc)

pub no_kind : (byte : ℕ) (bs : List ℕ) → (kind_of byte).class ≡ Unknown
    → constructor_of 5 bs ≡ constructor_of byte bs
unfolding kind_of kinds constructor_of
no_kind byte bs e =
    rw (other 1 byte refl e, other 2 byte refl e, other 3 byte refl e)
    (rw (other 4 byte refl e, other 8 byte refl e) refl)
