-- Some texts, computed.
use Rattle.std.specs.Prelude.{◌≡◌, refl, ℕ, List, ◌++◌, pos, negsuc}
use Rattle.std.proofs.Common.{sym, ap, arith}
use Rattle.text.specs.Letters.{letters}
use Rattle.text.specs.Text.{decimal_by, decimal, sign, signed, hundredths}
use Rattle.text.specs.Laws.Text.{rounds_enough}

pub zero_text : decimal 0 ≡ letters "0"
unfolding decimal decimal_by
zero_text = refl

pub nine_text : decimal 9 ≡ letters "9"
unfolding decimal decimal_by
nine_text = refl

pub ten_text : decimal 10 ≡ letters "10"
unfolding decimal decimal_by
ten_text = refl

pub most_rows_text : decimal 1024 ≡ letters "1024"
unfolding decimal decimal_by
most_rows_text = refl

pub minus_one_text : signed (negsuc 0) ≡ letters "-1"
unfolding signed sign decimal decimal_by
minus_one_text = refl

-- both ends of the range, by ten rounds
pub least_text : signed (negsuc 2147483647) ≡ letters "-2147483648"
unfolding signed sign decimal_by
least_text = ap (λ (x : List ℕ). letters "-" ++ x) (sym (rounds_enough 9 2147483648 (omega arith)))

pub greatest_text : signed (pos 2147483647) ≡ letters "2147483647"
unfolding signed sign decimal_by
greatest_text = sym (rounds_enough 9 2147483647 (omega arith))

-- ---- hundredths

-- "(−5 is `-0.05`)"
pub minus_five_hundredths : hundredths (negsuc 4) ≡ letters "-0.05"
unfolding hundredths sign decimal decimal_by
minus_five_hundredths = refl

pub minus_one_whole : hundredths (negsuc 99) ≡ letters "-1.00"
unfolding hundredths sign decimal decimal_by
minus_one_whole = refl

pub least_hundredths : hundredths (negsuc 2147483647) ≡ letters "-21474836.48"
unfolding hundredths sign decimal_by
least_hundredths =
    ap (λ (x : List ℕ). letters "-" ++ x ++ letters ".48") (sym (rounds_enough 7 21474836 (omega arith)))
