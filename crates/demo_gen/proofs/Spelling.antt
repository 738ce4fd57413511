-- Tokens that are names, texts, numbers and signs have a text: each one, with a space before it.
use Rattle.std.proofs.Common.{◌≡◌, ℕ, List, [], ◌∷◌, ◌++◌, refl, ◌∙◌}
use Rattle.std.specs.Prelude.{⊤}
use Rattle.oil_grammar.specs.Grammar.{File, file_tokens}
use Rattle.oil_grammar.specs.Tokens.{found, first_in, is_skipped, after_gap, BeginWith, AreTokensOf}
use Rattle.oil_grammar.proofs.Spelled.{first_behind_space}

abbrev element_of : {T : Type 0} → (File → List T) → Type 0
element_of {T = T} tokens = T

-- what a file is made of
abbrev pub Token : Type 0
Token = element_of file_tokens

-- the bytes are read as the token where a space follows them
abbrev pub Spells : Token → List ℕ → Type 0
Spells t bytes = (rest : List ℕ) → first_in (is_skipped t) (bytes ++ 32 ∷ rest) ≡ found t (bytes ++ 32 ∷ rest) (32 ∷ rest)

-- each token has a spelling
abbrev pub AreSpelled : List Token → Type 0
AreSpelled [] = ⊤
AreSpelled (t ∷ tokens) = ((bytes : List ℕ) × Spells t bytes) × AreSpelled tokens

pub are_tokens : (tokens : List Token) → AreSpelled tokens → (rest : List ℕ) × AreTokensOf tokens (32 ∷ rest)
unfolding BeginWith after_gap
are_tokens [] are = ([], record { left = 32 ∷ []; begin = refl; end = refl })
are_tokens (t ∷ tokens) are =
    let others = are_tokens tokens are.1 in
    let bytes = are.0.0 in (
      bytes ++ 32 ∷ others.0,
      record {
        left = others.1.left;
        begin = (
          bytes ++ 32 ∷ others.0,
          32 ∷ others.0,
          first_behind_space (is_skipped t) (bytes ++ 32 ∷ others.0) ∙ are.0.1 others.0,
          others.1.begin,
        );
        end = others.1.end;
      },
    )
