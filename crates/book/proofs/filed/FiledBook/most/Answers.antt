use Rattle.std.proofs.Common.{◌+◌, ◌-◌, ◌*◌, ◌^◌, ◌<◌, ◌≤◌, ap, ◌∙◌, get_or, subst, sym, add-one, arith}
use Rattle.book.specs.Filed.{count_at, players_kept}
use Rattle.book.specs.Limited.{count_range}
use Rattle.book.proofs.Packed.{Packs, packs_none, packs_more, packs_room, packed_few, packed_ones}
use Rattle.book.proofs.filed.FiledBook.most.Goals as goal

pub loop-k-init : goal.loop-k-init
loop-k-init c =
    let d = count_at c.args.self.now.bytes.now c.args.at in
    let P = players_kept c.args.self.now.players in
    subst (λ i. Packs d P i 0 0 1) (sym c.player_count-k.ensures) (packs_none d P)

room : (c : goal.After-from-count) → (c.loop-k.most < 16 ^ 5) × (c.loop-k.ones < 16 ^ 5) × (c.loop-k.product * c.from-count.result ≤ 15 ^ 5 * 15)
room c =
    let bs = c.args.self.now.bytes.now in
    packs_room (count_at bs c.args.at) (players_kept c.args.self.now.players) c.loop-k.k (c.loop-k.k - 1) c.loop-k.most c.loop-k.ones c.loop-k.product c.from-count.result (omega arith) (omega arith) (omega arith) c.loop-k.invariant
    (λ a. (count_range (get_or bs (c.args.at + 4 + a) 0)).1) (omega arith)

pub overflow_mul-most : goal.overflow_mul-most
overflow_mul-most c = omega (arith, room c)

pub overflow_add-most : goal.overflow_add-most
overflow_add-most c = omega (arith, room c)

pub overflow_mul-ones : goal.overflow_mul-ones
overflow_mul-ones c = omega (arith, room c)

pub overflow_add-ones : goal.overflow_add-ones
overflow_add-ones c = omega (arith, room c)

pub overflow_mul-product : goal.overflow_mul-product
overflow_mul-product c = omega (arith, room c)

pub loop-k-preserved : goal.loop-k-preserved
loop-k-preserved c =
    let d = count_at c.args.self.now.bytes.now c.args.at in
    packs_more d (players_kept c.args.self.now.players) c.loop-k.k (c.loop-k.k - 1) c.loop-k.most c.loop-k.ones c.loop-k.product c.from-count.result (omega arith) (omega arith) (omega arith) c.loop-k.invariant
    (c.from-count.ensures ∙ (c.count.ensures.is ∙ ap d (add-one (c.loop-k.k - 1))))

pub returns-then-product-le4096 : goal.returns-then-product-le4096
returns-then-product-le4096 c =
    let bs = c.args.self.now.bytes.now in
    let P = players_kept c.args.self.now.players in
    packed_few bs c.args.at P c.loop-k.most c.loop-k.ones c.loop-k.product (subst (λ i. Packs (count_at bs c.args.at) P i c.loop-k.most c.loop-k.ones c.loop-k.product) (omega arith) c.loop-k.invariant) (omega arith)

pub returns-else-product-le4096 : goal.returns-else-product-le4096
returns-else-product-le4096 c =
    let bs = c.args.self.now.bytes.now in
    let P = players_kept c.args.self.now.players in
    packed_ones bs c.args.at P c.loop-k.most c.loop-k.ones c.loop-k.product (subst (λ i. Packs (count_at bs c.args.at) P i c.loop-k.most c.loop-k.ones c.loop-k.product) (omega arith) c.loop-k.invariant) (omega arith)
