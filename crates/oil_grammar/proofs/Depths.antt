-- A token counts at most one brace of the skipped part.
use Rattle.std.proofs.Common.{◌≡◌, ℕ, zero, suc, ◌+◌, ◌≤◌, Bool, true, false, cond, List, subst, Some, None, Option, arith, rules}
use Rattle.std.specs.Prelude.{codes, nat_lt}
use Rattle.std.specs.Str.{bytes_eq}
use Rattle.oil_grammar.specs.Working.States.{around, when, object_with, after_part, after_skipped, block_end, word_value, after_value, next}
use Rattle.oil_grammar.specs.declared.token.Token.{Token}
use Rattle.oil_grammar.specs.declared.token.Token.TheVariants as token
use Rattle.oil_grammar.specs.declared.tree.Value.{Value}
use Rattle.oil_grammar.specs.declared.tree.Object.{Object}
use Rattle.oil_grammar.specs.declared.tree.Tree.{Tree}
use Rattle.oil_grammar.specs.declared.state.Part.{Part}
use Rattle.oil_grammar.specs.declared.state.State.{State}
use Rattle.oil_grammar.specs.declared.state.State.TheVariants.{Start, VersionEquals, VersionText, Ending, Describing, Described, Head, ImplementationName, ImplementationBlock, Skipping, CpuWord, CpuName, CpuBlock, Objects, ObjectName, ObjectBlock, Attributes, AttributeEquals, AttributeValue, AttributeBlock}
use Rattle.std.specs.Prelude.{IfSome}
use Rattle.oil_grammar.specs.Working.Reading.{depth_of}

when_depth : (b : Bool) (state : State) (n : ℕ) → depth_of state ≤ n → IfSome (when b state) (λ a. depth_of a ≤ n)
when_depth true state n le = le
when_depth false state n le = tt

head_depth : (b c : Bool) (version : List ℕ) (n : ℕ) → IfSome (cond b (Some (ImplementationName version)) (when c (CpuName version))) (λ a. depth_of a ≤ n)
head_depth true c version n = omega arith
head_depth false true version n = omega arith
head_depth false false version n = tt

part_depth : (p : Part) (n : ℕ) → depth_of (after_part p) ≤ n
part_depth p n = search rules

block_depth : (tree : Tree) (object : Object) (level n : ℕ) → depth_of (block_end tree object level) ≤ n
block_depth tree object zero n = omega arith
block_depth tree object (suc zero) n = omega arith
block_depth tree object (suc (suc level)) n = omega arith

value_depth : (tree : Tree) (object : Object) (level : ℕ) (name : List ℕ) (v : Value) (n : ℕ) → depth_of (after_value (around tree object level) name v) ≤ n
value_depth tree object level name v n = search rules

skipped_depth : (version : List ℕ) (depth : ℕ) → depth_of (after_skipped version depth) ≤ depth + 1
skipped_depth version zero = omega arith
skipped_depth version (suc depth) = omega arith

pub depth_next : (limit : ℕ) (state : State) (t : Token) → IfSome (next limit state t) (λ a. depth_of a ≤ depth_of state + 1)
unfolding next
depth_next limit Start (token.Name name) = when_depth (bytes_eq name (codes "OIL_VERSION")) VersionEquals 1 (omega arith)
depth_next limit VersionEquals token.Equals = omega arith
depth_next limit VersionText (token.Text version) = omega arith
depth_next limit (Ending p) token.Colon = omega arith
depth_next limit (Ending p) token.Semicolon = part_depth p 1
depth_next limit (Describing p) (token.Text description) = omega arith
depth_next limit (Described p) token.Semicolon = part_depth p 1
depth_next limit (Head version) (token.Name name) = head_depth (bytes_eq name (codes "IMPLEMENTATION")) (bytes_eq name (codes "CPU")) version 1
depth_next limit (ImplementationName version) (token.Name name) = omega arith
depth_next limit (ImplementationBlock version) token.Open = omega arith
depth_next limit (Skipping version depth) token.SkippedOpen = omega arith
depth_next limit (Skipping version depth) token.SkippedClose = skipped_depth version depth
depth_next limit (CpuWord version) (token.Name name) = when_depth (bytes_eq name (codes "CPU")) (CpuName version) 1 (omega arith)
depth_next limit (CpuName version) (token.Name name) = omega arith
depth_next limit (CpuBlock tree) token.Open = omega arith
depth_next limit (Objects tree) token.Close = omega arith
depth_next limit (Objects tree) (token.Name kind) = omega arith
depth_next limit (ObjectName tree kind) (token.Name name) = omega arith
depth_next limit (ObjectBlock tree object) token.Open = omega arith
depth_next limit (ObjectBlock tree object) token.Colon = omega arith
depth_next limit (ObjectBlock tree object) token.Semicolon = omega arith
depth_next limit (Attributes a) token.Close = block_depth a.tree a.object a.level 1
depth_next limit (Attributes a) (token.Name name) = omega arith
depth_next limit (AttributeEquals a name) token.Equals = omega arith
depth_next limit (AttributeValue a name) (token.Name word) = value_depth a.tree a.object a.level name (word_value word) 1
depth_next limit (AttributeValue a name) (token.Number negative size) = omega arith
depth_next limit (AttributeValue a name) (token.Text text) = omega arith
depth_next limit (AttributeBlock a name v) token.Open = when_depth (nat_lt a.level limit) (Attributes (around a.tree (object_with a.object a.level name v true) (suc a.level))) 1 (omega arith)
depth_next limit (AttributeBlock a name v) token.Colon = omega arith
depth_next limit (AttributeBlock a name v) token.Semicolon = omega arith
depth_next limit _ _ = tt

pub depth_after : (limit : ℕ) (state after : State) (t : Token) → next limit state t ≡ Some after → depth_of after ≤ depth_of state + 1
depth_after limit state after t is = some_depth (next limit state t) (depth_of state + 1) after is (depth_next limit state t)
  where
    some_depth : (o : Option State) (n : ℕ) (after : State) → o ≡ Some after → IfSome o (λ a. depth_of a ≤ n) → depth_of after ≤ n
    some_depth None n after is le = absurd (cc)
    some_depth (Some s) n after is le = let same : s ≡ after = cc in subst (λ r. depth_of r ≤ n) same le
