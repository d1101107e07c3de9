-- Every line has 102 bytes: 101 characters, and a line feed.
use Rattle.std.specs.Prelude.{◌≡◌, refl, ℕ, zero, suc, ◌+◌, ◌*◌, ◌-◌, ◌<◌, ◌≤◌, true, List, [], ◌∷◌, ◌++◌, ℤ, pos, length, get_or, drop, replicate}
use Rattle.std.proofs.Common.{◌∙◌, arith, length-append}
use Rattle.std.proofs.Math.Decide.{dec_lt}
use Rattle.std.proofs.Math.ListN.{get_or-append}
use Rattle.std.proofs.lemmas.List.{get_or_at}
use Rattle.std.proofs.lemmas.Grind.{common_steps}
use Rattle.laws.specs.Lists.{joined}
use Rattle.text.specs.Letters.{letters}
use Rattle.text.specs.Text.{decimal}
use Rattle.text.specs.Laws.Characters.{is_character, is_text, text_at, text_then, text_drop, text_spaces, text_joined}
use Rattle.text.specs.Laws.Characters.{text_decimal, text_signed, text_hundredths}
use Rattle.sheet_lines.specs.Line.{padded, field_width, fields_of, field_text, headings, heading_line, row_line}
use Rattle.sheet_lines.specs.Line.{foot_text, foot_line}
use Rattle.sheet_lines.specs.Laws.Fields.{padded_long}

-- n lines: 102 bytes each, a line feed at the end of each, and characters before it
pub record Lined (x : List ℕ) (n : ℕ) : Type 0 where
  pub long : length x ≡ 102 * n
  pub feeds : (i : ℕ) → i < n → get_or x (102 * i + 101) 0 ≡ 10
  pub shows : (i k : ℕ) → i < n → k < 101 → is_character (get_or x (102 * i + k) 0) ≡ true

pub lined_none : Lined [] 0
lined_none = grind arith

lined_one : (x : List ℕ) → length x ≡ 101 → is_text x ≡ true → Lined (x ++ 10 ∷ []) 1
lined_one x e t =
    record {
      long = length-append x (10 ∷ []) ∙ omega arith;
      feeds = λ i h. let z : 102 * i + 101 ≡ 101 = omega arith in rw z (get_or_at x 10 [] 0 101 e);
      shows = λ i k h l.
          let z : 102 * i + k ≡ k = omega arith in
          rw (z, get_or-append x (10 ∷ []) 0 k (omega arith)) (text_at x k t (omega arith));
    }

-- the byte at a place of a line of the first list, or of the second
module _ (x y : List ℕ) (m : ℕ) (long : length x ≡ 102 * m) where
  in_first : (i k : ℕ) → i < m → k < 102 → get_or (x ++ y) (102 * i + k) 0 ≡ get_or x (102 * i + k) 0
  in_first i k h l = get_or-append x y 0 (102 * i + k) (omega arith)

  in_second : (i k : ℕ) → m ≤ i → get_or (x ++ y) (102 * i + k) 0 ≡ get_or y (102 * (i - m) + k) 0
  in_second i k h = grind (arith, common_steps)

pub lined_then : (x y : List ℕ) (m n : ℕ) → Lined x m → Lined y n → Lined (x ++ y) (m + n)
lined_then x y m n p q =
    record {
      long = length-append x y ∙ omega (arith, p.long, q.long);
      feeds = λ i h. feed i h;
      shows = λ i k h l. show i k h l;
    }
  where
    feed : (i : ℕ) → i < m + n → get_or (x ++ y) (102 * i + 101) 0 ≡ 10
    feed i h =
        elim (dec_lt i m) [
          | yes l ↦ in_first x y m p.long i 101 l (omega arith) ∙ p.feeds i l
          | no g ↦ in_second x y m p.long i 101 (omega arith) ∙ q.feeds (i - m) (omega arith)
        ]

    show : (i k : ℕ) → i < m + n → k < 101 → is_character (get_or (x ++ y) (102 * i + k) 0) ≡ true
    show i k h b =
        elim (dec_lt i m) [
          | yes l ↦ rw (in_first x y m p.long i k l (omega arith)) (p.shows i k l b)
          | no g ↦ rw (in_second x y m p.long i k (omega arith)) (q.shows (i - m) k (omega arith) b)
        ]

-- ---- the three kinds of line

text_padded : (w : ℕ) (t : List ℕ) → is_text t ≡ true → is_text (padded w t) ≡ true
unfolding padded
text_padded w t h =
    text_then (replicate (w - length t) 32) (drop (length t - w) t) (text_spaces (w - length t))
    (text_drop (length t - w) t h)

sum : (ℕ → ℕ) → ℕ → ℕ
sum g zero = 0
sum g (suc n) = sum g n + g n

joined_long : (f : ℕ → List ℕ) (g : ℕ → ℕ) (n : ℕ) → ((i : ℕ) → i < n → length (f i) ≡ g i)
    → length (joined f n) ≡ sum g n
unfolding joined sum
joined_long f g zero h = refl
joined_long f g (suc n) h =
    length-append (joined f n) (f n)
    ∙ omega (arith, joined_long f g n (λ i l. h i (omega arith)), h n (omega arith))

fields_lined : (texts : ℕ → List ℕ) → is_text (fields_of texts) ≡ true → Lined (fields_of texts ++ 10 ∷ []) 1
unfolding fields_of field_width sum
fields_lined texts t =
    lined_one (fields_of texts)
    (joined_long (λ j. padded (field_width j) (texts j)) field_width 9 (λ j l. padded_long (field_width j) (texts j))) t

heading_text : is_text (fields_of (λ j. letters (get_or headings j ""))) ≡ true
unfolding is_text fields_of joined padded field_width
heading_text = refl

field_text_lem : (r : ℕ) (row : List ℤ) (j : ℕ) → is_text (field_text r row j) ≡ true
unfolding field_text
field_text_lem r row zero = text_decimal r
field_text_lem r row (suc zero) = text_hundredths (get_or row 0 (pos 0))
field_text_lem r row (suc (suc j)) = text_signed (get_or row (suc j) (pos 0))

row_text : (r : ℕ) (row : List ℤ) → is_text (fields_of (field_text r row)) ≡ true
unfolding fields_of
row_text r row =
    text_joined (λ j. padded (field_width j) (field_text r row j)) 9
    (λ j. text_padded (field_width j) (field_text r row j) (field_text_lem r row j))

foot_text_lem : (page pages : ℕ) → is_text (foot_text page pages) ≡ true
unfolding foot_text
foot_text_lem page pages =
    text_then (letters "PAGE " ++ decimal page ++ letters " OF ") (decimal pages)
    (text_then (letters "PAGE " ++ decimal page) (letters " OF ")
    (text_then (letters "PAGE ") (decimal page) (unfold is_text in refl) (text_decimal page)) (unfold is_text in refl))
    (text_decimal pages)

pub heading_lined : Lined heading_line 1
unfolding heading_line
heading_lined = fields_lined (λ j. letters (get_or headings j "")) heading_text

pub row_lined : (r : ℕ) (row : List ℤ) → Lined (row_line r row) 1
unfolding row_line
row_lined r row = fields_lined (field_text r row) (row_text r row)

pub foot_lined : (page pages : ℕ) → Lined (foot_line page pages) 1
unfolding foot_line
foot_lined page pages =
    lined_one (padded 101 (foot_text page pages)) (padded_long 101 (foot_text page pages))
    (text_padded 101 (foot_text page pages) (foot_text_lem page pages))
