-- One byte of what stands between tokens.
use Rattle.std.proofs.Common.{◌≡◌, ◌≢◌, ℕ, Bool, true, false, ◌==◌, ◌&&◌, eqb, List, [], ◌∷◌, length, drop, refl, ◌∙◌, Some, None, Ok, arith}
use Rattle.std.proofs.lemmas.Bool.Decides.{nat_tests}
use Rattle.std.proofs.lemmas.Bool.{ne_eqb}
use Rattle.oil_grammar.specs.Bytes.{first_of}
use Rattle.oil_grammar.specs.Tokens.{after_gap, Within, between, line, opening, comment, closing, quoted, within_after, is_slash_and, is_passed}
use Rattle.oil_grammar.specs.Working.Gaps.{bad_at}
use Rattle.oil_grammar.specs.declared.fault.OilKind.TheVariants.{Comment, Text}

pub other_than : (b n : ℕ) → b ≢ n → eqb b n ≡ false
other_than b n ne = ne_eqb b n ne

pub none_left : {X : Type 0} (bytes : List X) → length bytes ≡ 0 → bytes ≡ []
none_left [] none = refl
none_left (b ∷ rest) none = absurd (cc)

-- the byte leads on
step : (skips : Bool) (w next : Within) (b : ℕ) (bytes tail : List ℕ) → bytes ≡ b ∷ tail → within_after skips w b tail ≡ Some next → after_gap skips w bytes ≡ after_gap skips next tail
unfolding after_gap
step skips w next b bytes tail split leads = rw split (rw leads refl)

-- the byte is the first of a token, or of none
stop : (skips : Bool) (w : Within) (b : ℕ) (bytes tail : List ℕ) → bytes ≡ b ∷ tail → within_after skips w b tail ≡ None → after_gap skips w bytes ≡ Ok bytes
unfolding after_gap
stop skips w b bytes tail split leads = rw split (rw leads refl)

pub line_newline : (skips : Bool) (b : ℕ) (bytes tail : List ℕ) → bytes ≡ b ∷ tail → b ≡ 10 → after_gap skips line bytes ≡ after_gap skips between tail
line_newline skips b bytes tail split is = step skips line between b bytes tail split (rw is refl)

pub line_other : (skips : Bool) (b : ℕ) (bytes tail : List ℕ) → bytes ≡ b ∷ tail → b ≢ 10 → after_gap skips line bytes ≡ after_gap skips line tail
line_other skips b bytes tail split is = step skips line line b bytes tail split (rw (other_than b 10 is) refl)

pub line_end : (skips : Bool) (bytes : List ℕ) → length bytes ≡ 0 → after_gap skips line bytes ≡ after_gap skips between bytes
unfolding after_gap
line_end skips bytes none = rw (none_left bytes none) refl

pub quote_end : (skips : Bool) (from : List ℕ) (b : ℕ) (bytes tail : List ℕ) → bytes ≡ b ∷ tail → b ≡ 34 → after_gap skips (quoted from) bytes ≡ after_gap skips between tail
quote_end skips from b bytes tail split is = step skips (quoted from) between b bytes tail split (rw is refl)

pub quote_other : (skips : Bool) (from : List ℕ) (b : ℕ) (bytes tail : List ℕ) → bytes ≡ b ∷ tail → b ≢ 34 → after_gap skips (quoted from) bytes ≡ after_gap skips (quoted from) tail
quote_other skips from b bytes tail split is = step skips (quoted from) (quoted from) b bytes tail split (rw (other_than b 34 is) refl)

pub quote_open : (skips : Bool) (from bytes : List ℕ) → length bytes ≡ 0 → after_gap skips (quoted from) bytes ≡ bad_at Text from
unfolding after_gap
quote_open skips from bytes none = rw (none_left bytes none) refl

pub comment_other : (skips : Bool) (from : List ℕ) (b : ℕ) (bytes tail : List ℕ) → bytes ≡ b ∷ tail → ((b == 42) && (first_of tail == 47)) ≡ false → after_gap skips (comment from) bytes ≡ after_gap skips (comment from) tail
comment_other skips from b bytes tail split is = step skips (comment from) (comment from) b bytes tail split (rw is refl)

pub comment_open : (skips : Bool) (from bytes : List ℕ) → length bytes ≡ 0 → after_gap skips (comment from) bytes ≡ bad_at Comment from
unfolding after_gap
comment_open skips from bytes none = rw (none_left bytes none) refl

-- a byte that is not looked at
behind : (skips : Bool) (w next : Within) (b : ℕ) (tail : List ℕ) → ((c : ℕ) (rest : List ℕ) → within_after skips w c rest ≡ Some next) → eqb (first_of tail) 0 ≡ false → after_gap skips w tail ≡ after_gap skips next (drop 1 tail)
behind skips w next b [] leads some = absurd (cc)
behind skips w next b (c ∷ rest) leads some = step skips w next c (c ∷ rest) rest refl (leads c rest)

-- two bytes: the star and the slash
pub comment_end : (skips : Bool) (from : List ℕ) (b : ℕ) (bytes tail : List ℕ) → bytes ≡ b ∷ tail → ((b == 42) && (first_of tail == 47)) ≡ true → after_gap skips (comment from) bytes ≡ after_gap skips between (drop 1 tail)
comment_end skips from b bytes tail split is =
    let slash : eqb (first_of tail) 0 ≡ false = grind (arith, nat_tests) in
    step skips (comment from) closing b bytes tail split (rw is refl)
    ∙ behind skips closing between b tail (λ c rest. refl) slash

-- The pieces of what stands between tokens.

pub piece_line : (skips : Bool) (b : ℕ) (bytes tail : List ℕ) → bytes ≡ b ∷ tail → is_slash_and 47 b tail ≡ true → after_gap skips between bytes ≡ after_gap skips line tail
piece_line skips b bytes tail split is = step skips between line b bytes tail split (rw is refl)

pub piece_comment : (skips : Bool) (b : ℕ) (bytes tail : List ℕ) → bytes ≡ b ∷ tail → is_slash_and 47 b tail ≡ false → is_slash_and 42 b tail ≡ true → after_gap skips between bytes ≡ after_gap skips (comment bytes) (drop 1 tail)
piece_comment skips b bytes tail split no_line is =
    let star : eqb (first_of tail) 0 ≡ false = grind (arith, nat_tests) in
    step skips between (opening bytes) b bytes tail split (rw (no_line, is, ← split) refl)
    ∙ behind skips (opening bytes) (comment bytes) b tail (λ c rest. refl) star

pub piece_text : (skips : Bool) (b : ℕ) (bytes tail : List ℕ) → bytes ≡ b ∷ tail → is_slash_and 47 b tail ≡ false → is_slash_and 42 b tail ≡ false → (skips && (b == 34)) ≡ true → after_gap skips between bytes ≡ after_gap skips (quoted bytes) tail
piece_text skips b bytes tail split no_line no_comment is =
    step skips between (quoted bytes) b bytes tail split (rw (no_line, no_comment, is, ← split) refl)

pub piece_passed : (skips : Bool) (b : ℕ) (bytes tail : List ℕ) → bytes ≡ b ∷ tail → is_slash_and 47 b tail ≡ false → is_slash_and 42 b tail ≡ false → (skips && (b == 34)) ≡ false → is_passed skips b ≡ true → after_gap skips between bytes ≡ after_gap skips between tail
piece_passed skips b bytes tail split no_line no_comment no_text is =
    step skips between between b bytes tail split (rw (no_line, no_comment, no_text, is) refl)

pub piece_none : (skips : Bool) (b : ℕ) (bytes tail : List ℕ) → bytes ≡ b ∷ tail → is_slash_and 47 b tail ≡ false → is_slash_and 42 b tail ≡ false → (skips && (b == 34)) ≡ false → is_passed skips b ≡ false → after_gap skips between bytes ≡ Ok bytes
piece_none skips b bytes tail split no_line no_comment no_text is =
    stop skips between b bytes tail split (rw (no_line, no_comment, no_text, is) refl)

pub piece_end : (skips : Bool) (bytes : List ℕ) → length bytes ≡ 0 → after_gap skips between bytes ≡ Ok bytes
unfolding after_gap
piece_end skips bytes none = rw (none_left bytes none) refl
