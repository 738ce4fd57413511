-- Bytes that are read or written in pieces, one after another.
use Rattle.std.proofs.lemmas.List.{take-append-drop, take_rest}
use Rattle.std.proofs.Common.{◌≡◌, ◌≤◌, ◌-◌, List, [], ◌++◌, length, take, drop, refl, sym, ◌∙◌, ap, append_assoc}
use Rattle.std.specs.Prelude.{ℕ, Option, Some, None}
use Rattle.std.specs.Io.KnownBytes.{Appends, Consumes}

-- two pieces are written one after another
pub Appends_join : (first next last : Option (List ℕ)) (xs ys : List ℕ) → Appends first next xs → Appends next last ys → Appends first last (xs ++ ys)
Appends_join None next last xs ys one two = tt
Appends_join (Some a) None last xs ys one two = absurd one
Appends_join (Some a) (Some b) None xs ys one two = absurd two
Appends_join (Some a) (Some b) (Some c) xs ys one two = two ∙ (ap (λ known. known ++ ys) one ∙ append_assoc a xs ys)

-- two pieces are read one after another
pub Consumes_join : (first next last : Option (List ℕ)) (xs ys : List ℕ) → Consumes first next xs → Consumes next last ys → Consumes first last (xs ++ ys)
Consumes_join None next last xs ys one two = tt
Consumes_join (Some a) None last xs ys one two = absurd one
Consumes_join (Some a) (Some b) None xs ys one two = absurd two
Consumes_join (Some a) (Some b) (Some c) xs ys one two = one ∙ (ap (λ known. xs ++ known) two ∙ sym (append_assoc xs ys c))

-- nothing is read yet
pub Consumes_nothing : (known : Option (List ℕ)) → Consumes known known []
Consumes_nothing None = tt
Consumes_nothing (Some bytes) = refl

-- what was written and what is left are the piece, after n more bytes
pub written_and_left : (done left piece : List ℕ) (n : ℕ) → done ++ left ≡ piece → n ≤ length left → (done ++ take n left) ++ take (length left - n) (drop n left) ≡ piece
written_and_left done left piece n whole within =
    rw (take_rest left n, append_assoc done (take n left) (drop n left), take-append-drop n left) whole
