-- `shape_scope::word::ScopeWord::add_tree` meets its contract: the next digit is set to 1 (specs/Places.antt).
use Prim.Native.Nat.{ℕ, ◌+◌, ◌*◌, ◌%◌, ◌^◌}
use mathlib.Core.Path.{◌≡◌, ◌∙◌, ap}
use Rattle.shape_scope.specs.Places.{tree_more, tree_neat, room}
use Rattle.shape_scope.proofs.word.ScopeWord.add_tree.Goals as goal

pub invariant_of-result : goal.invariant_of-result
invariant_of-result c =
    let x = c.args.self.word in
    let e : x + 1 + 32 * c.power.result ≡ x + 1 + 32 * 2 ^ (x % 32) = ap (λ (y : ℕ). x + 1 + 32 * y) (c.power.ensures ∙ ap (λ (n : ℕ). 2 ^ n) c.count.ensures.1) in
    record { neat = tree_neat x (x + 1 + 32 * c.power.result) c.args.self.neat (room x c.requires) e }

pub returns : goal.returns
returns c =
    let x = c.args.self.word in
    let e : x + 1 + 32 * c.power.result ≡ x + 1 + 32 * 2 ^ (x % 32) = ap (λ (y : ℕ). x + 1 + 32 * y) (c.power.ensures ∙ ap (λ (n : ℕ). 2 ^ n) c.count.ensures.1) in
    tree_more x (x + 1 + 32 * c.power.result) c.args.self.neat (room x c.requires) e
