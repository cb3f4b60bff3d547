use Rattle.std.proofs.Common.{◌≡◌, ◌∙◌, ap}
use Rattle.og_machine.specs.Held.{first_of, dirty_copy, received}
use Rattle.og_engine.specs.Kept.{KeptMachine, node_seat}
use Rattle.og_engine.proofs.Lines.{first_in, of_dirty, of_message, of_request, of_home}
use Rattle.og_engine.proofs.Machine.line_of.Goals as goal

pub returns-in-Some : goal.returns-in-Some
returns-in-Some c =
    let dirty : c.first_dirty.result ≡ first_of (λ x. dirty_copy c.args.block (node_seat x).local) c.args.self.now.nodes =
    first_in (λ x. dirty_copy c.args.block (node_seat x).local) c.deref.result.now c.args.self.now.nodes c.first_dirty.result c.first_dirty.ensures (c.deref.ensures.value ∙ ap (λ (k : KeptMachine). k.nodes) c.self.view_is) in
    of_dirty c.args.self.now c.args.block c.first_dirty.result dirty c.in-Some.dirty c.in-Some.is

pub returns-in-Some-first_carried : goal.returns-in-Some-first_carried
returns-in-Some-first_carried c =
    let dirty : c.first_dirty.result ≡ first_of (λ x. dirty_copy c.args.block (node_seat x).local) c.args.self.now.nodes =
    first_in (λ x. dirty_copy c.args.block (node_seat x).local) c.deref.result.now c.args.self.now.nodes c.first_dirty.result c.first_dirty.ensures (c.deref.ensures.value ∙ ap (λ (k : KeptMachine). k.nodes) c.self.view_is) in
    of_message c.args.self.now c.args.block c.first_dirty.result dirty c.in_default.is c.first_carried.result c.first_carried.ensures c.in-Some-first_carried.carried c.in-Some-first_carried.is

pub returns-in-Some-first_received : goal.returns-in-Some-first_received
returns-in-Some-first_received c =
    let dirty : c.first_dirty.result ≡ first_of (λ x. dirty_copy c.args.block (node_seat x).local) c.args.self.now.nodes =
    first_in (λ x. dirty_copy c.args.block (node_seat x).local) c.deref.result.now c.args.self.now.nodes c.first_dirty.result c.first_dirty.ensures (c.deref.ensures.value ∙ ap (λ (k : KeptMachine). k.nodes) c.self.view_is) in
    let got : c.first_received.result ≡ first_of (λ x. received c.args.block (node_seat x).local) c.args.self.now.nodes =
    first_in (λ x. received c.args.block (node_seat x).local) c.deref-2.result.now c.args.self.now.nodes c.first_received.result c.first_received.ensures (c.deref-2.ensures.value ∙ ap (λ (k : KeptMachine). k.nodes) c.self.view_is) in
    of_request c.args.self.now c.args.block c.first_dirty.result dirty c.in_default.is c.first_carried.result c.first_carried.ensures c.in_default-first_carried.is c.first_received.result got c.in-Some-first_received.received c.in-Some-first_received.is

pub returns : goal.returns
returns c =
    let dirty : c.first_dirty.result ≡ first_of (λ x. dirty_copy c.args.block (node_seat x).local) c.args.self.now.nodes =
    first_in (λ x. dirty_copy c.args.block (node_seat x).local) c.deref.result.now c.args.self.now.nodes c.first_dirty.result c.first_dirty.ensures (c.deref.ensures.value ∙ ap (λ (k : KeptMachine). k.nodes) c.self.view_is) in
    let got : c.first_received.result ≡ first_of (λ x. received c.args.block (node_seat x).local) c.args.self.now.nodes =
    first_in (λ x. received c.args.block (node_seat x).local) c.deref-2.result.now c.args.self.now.nodes c.first_received.result c.first_received.ensures (c.deref-2.ensures.value ∙ ap (λ (k : KeptMachine). k.nodes) c.self.view_is) in
    of_home c.args.self.now c.args.block c.first_dirty.result dirty c.in_default.is c.first_carried.result c.first_carried.ensures c.in_default-first_carried.is c.first_received.result got c.line_at_home.result.now c.in_default-first_received.is c.line_at_home.ensures
