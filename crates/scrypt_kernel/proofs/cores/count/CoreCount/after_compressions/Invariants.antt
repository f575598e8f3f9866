use Rattle.scrypt_kernel.proofs.cores.count.CoreCount.after_compressions.Given as goal

abbrev pub ghost-of : goal.ghost-of
ghost-of g a = (g.more.1, g.more.2, g.more.3)
