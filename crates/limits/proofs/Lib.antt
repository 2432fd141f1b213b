mod Leaves
mod Numbers
